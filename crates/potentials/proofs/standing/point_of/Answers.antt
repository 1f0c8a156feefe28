use Rattle.std.proofs.Common.{arith}
use Rattle.compact_types.specs.declared.places.Axis.TheVariants.{X, Y}
use Rattle.bars.proofs.Laws.{line_below}
use Rattle.potentials.proofs.standing.point_of.Goals as goal

pub bounds-across-column_of : goal.bounds-across-column_of
bounds-across-column_of c = omega (arith, line_below Y c.args.bars.now c.args.v c.requires.vertex, c.requires.across, c.column_of.ensures)

pub bounds-up-row_of : goal.bounds-up-row_of
bounds-up-row_of c = omega (arith, line_below X c.args.bars.now c.args.v c.requires.vertex, c.requires.up, c.row_of.ensures)
