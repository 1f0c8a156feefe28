use Rattle.std.proofs.Common.{refl}
use Rattle.gml_text.proofs.NumeralLaws.{whole_parts, parts_of_whole, whole_from_parts, value_by_parts, numeral_has_parts, parts_of_numeral, one_way_of_parts}
use Rattle.gml_text.proofs.number.numerals_have_parts.Goals as goal

pub returns-clause-whole : goal.returns-clause-whole
returns-clause-whole c = λ word.
    (λ h. (whole_parts word, parts_of_whole word h, record { fraction = refl; exponent = refl }), λ (n, p, k). whole_from_parts word n p k)

pub returns-clause-value : goal.returns-clause-value
returns-clause-value c = value_by_parts

pub returns-clause-numeral : goal.returns-clause-numeral
returns-clause-numeral c = λ word. (numeral_has_parts word, λ (n, p). parts_of_numeral word n p)

pub returns-clause-only : goal.returns-clause-only
returns-clause-only c = one_way_of_parts
