use Rattle.bars.proofs.SharedVertices.{cross_read}
use Rattle.bars.proofs.segments.Bars.cross.Goals as goal

pub returns : goal.returns
returns c =
    cross_read c.self.inside.shape c.args.self.now c.self.inside.rows c.self.inside.columns c.self.inside.crossings.items c.args.row c.args.column _ c.self.view_is
    c.self.invariant.in_rows c.self.invariant.in_columns c.self.invariant.of_crossings c.requires.row c.requires.column c.index.ensures
