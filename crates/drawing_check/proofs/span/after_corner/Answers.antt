use Rattle.std.proofs.Common.{rules, arith, ◌+ℤ◌, pos}
use Rattle.std.proofs.lemmas.Int.{to_z-of_z, ints}
use mir.Syntax.{w64}
use mir.Val.{SFits}
use Rattle.drawing_check.proofs.SpanLemmas.{right_least}
use Rattle.drawing_check.proofs.span.after_corner.Goals as goal

pub returns-then-x : goal.returns-then-x
returns-then-x c =
    let x : SFits w64 c.args.extent.x.low = search rules in
    let y : SFits w64 c.args.extent.y.low = search rules in
    let next : SFits w64 (c.args.extent.x.low +ℤ pos 1) = omega (arith, ints) in
    simp to_z-of_z (right_least c.args.extent (omega (arith, ints)) (omega (arith, ints)))
