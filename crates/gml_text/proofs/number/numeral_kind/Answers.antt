use Rattle.std.specs.Prelude.{nat_lt}
use Rattle.std.proofs.Common.{◌≡◌, ◌+◌, length, ◌&&◌, ◌||◌, sym, ◌∙◌, arith}
use Rattle.std.proofs.lemmas.Grind.{common_steps}
use Rattle.gml_text.specs.NumeralKinds.{is_exponent, exponent_of}
use Rattle.gml_text.proofs.PartLemmas.{kind_of_cut}
use Rattle.gml_text.proofs.number.numeral_kind.Goals as goal
use Rattle.gml_text.proofs.number.numeral_kind.Goals.{then-have_digit, else-have_digit, then-parts, else-parts}

pub returns : goal.returns
returns c =
    let numeral : c.if-have_digit.numeral ≡ (nat_lt 0 (length c.parts_of-parts.result.whole.now + length c.parts_of-parts.result.fraction.now) && is_exponent (exponent_of c.parts_of-parts.result.exponent.now)) =
    elim c.if-have_digit.branch [ then-have_digit w ↦ grind (arith, common_steps) | else-have_digit w ↦ grind (arith, common_steps) ] in
    let real : c.if-parts.real ≡ (c.parts_of-parts.result.point || nat_lt 0 (length c.parts_of-parts.result.exponent.now)) =
    elim c.if-parts.branch [ then-parts w ↦ grind (arith, common_steps) | else-parts w ↦ grind (arith, common_steps) ] in
    c.kind_from.ensures ∙ rw (numeral, real) (sym (kind_of_cut _ _ _ _ _ _ c.parts_of-parts.ensures))
