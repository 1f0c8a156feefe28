use Rattle.std.proofs.Common.{rules, arith, ◌≡◌, Some, ap, ◌∙◌, sym}
use Rattle.std.proofs.lemmas.Int.{to_z-of_z, ints}
use mir.Syntax.{w64}
use mir.Val.{SFits}
use Rattle.drawing_check.proofs.SpanLemmas.{corner_of, corner_is_least, without_corner, point_from_tests, other_point_from_tests}
use Rattle.drawing_check.proofs.span.least_point.Goals as goal

pub returns-in-Some : goal.returns-in-Some
returns-in-Some c =
    let x : SFits w64 c.args.extent.x.low = search rules in
    let y : SFits w64 c.args.extent.y.low = search rules in
    let tests = rw c.in-Some.point-is at (simp to_z-of_z at c.eq.ensures) in
    let same = point_from_tests c.in-Some.point (corner_of c.args.extent) c.eq.result tests c.if-eq.true in
    without_corner c.args.extent c.args.except _ (sym (c.in-Some.is ∙ ap Some same)) c.after_corner.ensures

pub returns-in_default : goal.returns-in_default
returns-in_default c =
    let x : SFits w64 c.args.extent.x.low = search rules in
    let y : SFits w64 c.args.extent.y.low = search rules in
    let tests = rw c.in-Some.point-is at (simp to_z-of_z at c.eq.ensures) in
    let other = other_point_from_tests c.in-Some.point (corner_of c.args.extent) c.eq.result tests c.if-eq.false in
    simp to_z-of_z (corner_is_least c.args.extent c.args.except (omega (arith, ints)) (omega (arith, ints))
    (λ same. other (let some : Some c.in-Some.point ≡ Some (corner_of c.args.extent) = sym c.in-Some.is ∙ same in cc)))
