use Rattle.std.proofs.Common.{rules, w64}
use mir.Val.{SFits}
use Rattle.compact_types.specs.declared.places.Axis.TheVariants.{X, Y}
use Rattle.compact_types.proofs.DivisionLemmas.{read_multiple}
use Rattle.compact_types.proofs.divisions.divided_point.Goals as goal

pub divided-requires-clause-multiple : goal.divided-requires-clause-multiple
divided-requires-clause-multiple c =
    let fits : SFits w64 c.args.point.x = search rules in
    read_multiple c.args.point.x c.args.by fits c.ranges.by (c.requires.on_grid X)

pub divided-requires-2-clause-multiple : goal.divided-requires-2-clause-multiple
divided-requires-2-clause-multiple c =
    let fits : SFits w64 c.args.point.y = search rules in
    read_multiple c.args.point.y c.args.by fits c.ranges.by (c.requires.on_grid Y)
