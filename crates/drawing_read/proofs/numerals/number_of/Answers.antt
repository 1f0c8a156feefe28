use Rattle.std.proofs.Common.{ap, ◌∙◌}
use Rattle.gml_text.specs.NumeralKinds.{is_numeral}
use Rattle.drawing_read.proofs.LegibleLemmas.{numeral_word}
use Rattle.drawing_read.proofs.numerals.number_of.Goals as goal

pub thousandths-requires : goal.thousandths-requires
thousandths-requires c =
    ap is_numeral c.as_slice.ensures ∙ numeral_word c.args.pair.now c.in-Whole.word c.in-Whole.is c.requires
