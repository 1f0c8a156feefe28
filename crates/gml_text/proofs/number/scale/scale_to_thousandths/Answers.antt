use Rattle.std.proofs.Common.{◌+◌, ◌<◌, length, arith}
use Rattle.std.proofs.lemmas.Bool.Decides.{nat_tests}
use Rattle.gml_text.specs.NumeralKinds.{exponent_of}
use Rattle.gml_text.proofs.ScaleLemmas.{too_fine_by_kept, too_great_by_kept, raised_by_kept}
use Rattle.gml_text.proofs.number.scale.scale_to_thousandths.Goals as goal
use Rattle.gml_text.proofs.number.scale.scale_to_thousandths.Goals.{else-is_empty-via-then-is_empty+else-is_empty-2, else-is_empty-via-else-is_empty}

pub returns-in_default : goal.returns-in_default
returns-in_default c =
    let v = c.leave_out_end_zeros.result.0.now in
    let f = c.leave_out_end_zeros.result.1.now in
    let some : 0 < length v + length f =
    elim c.else-is_empty.branch [
      | else-is_empty-via-then-is_empty+else-is_empty-2 w ↦ grind (arith, nat_tests)
      | else-is_empty-via-else-is_empty w ↦ grind (arith, nat_tests)
    ] in
    too_fine_by_kept c.args.whole.now c.args.fraction.now v f (exponent_of c.args.exponent.now) c.leave_out_end_zeros.ensures some (omega arith) (omega arith)

pub returns-in_default-magnitude_of : goal.returns-in_default-magnitude_of
returns-in_default-magnitude_of c =
    too_great_by_kept c.args.whole.now c.args.fraction.now c.leave_out_end_zeros.result.0.now c.leave_out_end_zeros.result.1.now
    (exponent_of c.args.exponent.now) c.leave_out_end_zeros.ensures (omega arith) (omega arith) (omega arith)

pub returns : goal.returns
returns c =
    let v = c.leave_out_end_zeros.result.0.now in
    let f = c.leave_out_end_zeros.result.1.now in
    let some : 0 < length v + length f =
    elim c.else-is_empty.branch [
      | else-is_empty-via-then-is_empty+else-is_empty-2 w ↦ grind (arith, nat_tests)
      | else-is_empty-via-else-is_empty w ↦ grind (arith, nat_tests)
    ] in
    raised_by_kept c.args.whole.now c.args.fraction.now v f
    (exponent_of c.args.exponent.now) c.in-Some-magnitude_of.number c.in-Some.tens c.raise.result
    c.leave_out_end_zeros.ensures some (omega arith) (omega arith) (omega arith) (omega arith) (omega arith) c.raise.ensures
