use Rattle.compact_main.specs.Drawings.{shape_of}
use Rattle.compact_main.proofs.ShownBest.{found}
use Rattle.compact_main.proofs.ReadShapes.{drawn_read, within_limits}
use Rattle.compact_main.proofs.draw.best_of.Goals as goal

pub best-requires-clause-drawing : goal.best-requires-clause-drawing
best-requires-clause-drawing g c = drawn_read c.args.drawing.now c.requires.read

pub best-requires-clause-near : goal.best-requires-clause-near
best-requires-clause-near g c = (within_limits c.args.drawing.now.tree c.args.drawing.now.reading c.requires.read.read).within_reach

pub returns : goal.returns
returns g c = found (shape_of c.args.drawing.now) c.best.result c.best.ensures.best c.best.ensures.board
