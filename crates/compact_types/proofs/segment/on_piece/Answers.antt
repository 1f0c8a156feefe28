use Rattle.std.proofs.Common.{rules}
use Rattle.std.proofs.lemmas.Int.{to_z-of_z}
use mir.Syntax.{w64}
use mir.Val.{SFits}
use Rattle.compact_types.proofs.segment.on_piece.Goals as goal

pub returns-then-is_between : goal.returns-then-is_between
returns-then-is_between c =
    let ax : SFits w64 c.args.a.x = search rules in
    let bx : SFits w64 c.args.b.x = search rules in
    let zx : SFits w64 c.args.z.x = search rules in
    let ay : SFits w64 c.args.a.y = search rules in
    let by : SFits w64 c.args.b.y = search rules in
    let zy : SFits w64 c.args.z.y = search rules in
    let across = simp to_z-of_z at c.is_between.ensures in
    let along = simp to_z-of_z at c.is_between-then-is_between.ensures in
    (λ holds. (across.0 c.if-is_between.true, along.0 holds), λ lies. along.1 lies.1)
