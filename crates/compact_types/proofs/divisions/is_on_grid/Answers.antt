use Rattle.std.proofs.Common.{rules, w64}
use Rattle.std.proofs.lemmas.Int.{to_z-of_z}
use mir.Val.{SFits}
use Rattle.compact_types.proofs.DivisionLemmas.{both_or_off}
use Rattle.compact_types.proofs.divisions.is_on_grid.Goals as goal

pub returns-then-is_multiple : goal.returns-then-is_multiple
returns-then-is_multiple c =
    let x : SFits w64 c.args.point.x = search rules in
    let y : SFits w64 c.args.point.y = search rules in
    let by : SFits w64 c.args.by = c.ranges.by in
    both_or_off c.args.by c.args.point _ _ (simp to_z-of_z at c.is_multiple.ensures) (simp to_z-of_z at c.is_multiple-then-is_multiple.ensures)
    c.if-is_multiple.true
