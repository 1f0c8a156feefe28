use Rattle.std.proofs.Common.{arith}
use Rattle.std.proofs.lemmas.Bool.Decides.{nat_tests}
use Rattle.gml_text.proofs.EndZeros.{kept_both, kept_whole}
use Rattle.gml_text.proofs.number.scale.leave_out_end_zeros.Goals as goal

pub returns-then-is_empty : goal.returns-then-is_empty
returns-then-is_empty c =
    let kept = c.without_end_zeros-kept_fraction in
    kept_whole c.args.whole.now c.args.fraction.now c.without_end_zeros.result.now kept.result.now
    c.requires.whole (grind (arith, nat_tests)) kept.ensures.zeros
    c.without_end_zeros.ensures.last c.without_end_zeros.ensures.within c.without_end_zeros.ensures.zeros

pub returns-else-is_empty : goal.returns-else-is_empty
returns-else-is_empty c =
    let kept = c.without_end_zeros-kept_fraction in
    kept_both c.args.whole.now c.args.fraction.now kept.result.now c.requires.whole c.requires.fraction
    kept.ensures.last kept.ensures.within kept.ensures.zeros (grind (arith, nat_tests))
