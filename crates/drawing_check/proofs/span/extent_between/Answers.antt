use Rattle.std.proofs.Common.{rules}
use Rattle.std.proofs.lemmas.Int.{to_z-of_z}
use mir.Syntax.{w64}
use mir.Val.{SFits}
use Rattle.drawing_check.proofs.span.extent_between.Goals as goal

pub returns : goal.returns
returns c =
    let ax : SFits w64 c.args.a.x = search rules in
    let bx : SFits w64 c.args.b.x = search rules in
    let ay : SFits w64 c.args.a.y = search rules in
    let by : SFits w64 c.args.b.y = search rules in
    let across = simp to_z-of_z at c.span_between.ensures in
    let along = simp to_z-of_z at c.span_between-2.ensures in
    λ z. (λ lies. ((across z.x).0 lies.0, (along z.y).0 lies.1), λ inside. ((across z.x).1 inside.0, (along z.y).1 inside.1))
