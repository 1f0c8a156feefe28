use Rattle.compact_main.proofs.SampleDrawings.{shape_of_sample}
use Rattle.compact_main.proofs.sample.sample_shape.Goals as goal

pub returns-clause-shape : goal.returns-clause-shape
returns-clause-shape c =
    shape_of_sample c.args.number _ _ c.requires.some
    (record { vertices = c.vertices_of.ensures; pieces = c.in_ok-pieces.ensures; points = c.in_ok-xy.ensures }) c.in_ok-ways.ensures
