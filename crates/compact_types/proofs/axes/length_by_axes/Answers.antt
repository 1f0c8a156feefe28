use Rattle.std.specs.Prelude.{length}
use Rattle.compact_types.specs.Drawings.{begin_of, end_of}
use Rattle.compact_types.specs.Lengths.{gap}
use Rattle.compact_types.proofs.SumLemmas.{sum_to-add}
use Rattle.compact_types.proofs.axes.length_by_axes.Goals as goal

pub returns : goal.returns
returns c = λ plan places.
    sum_to-add (λ i. gap (begin_of plan places i).x (end_of plan places i).x) (λ i. gap (begin_of plan places i).y (end_of plan places i).y) (length plan.pieces)
