use Rattle.std.proofs.Common.{◌≡◌, ◌++◌, take}
use Rattle.compact_types.specs.declared.places.Axis.TheVariants.{X, Y}
use Rattle.shape_graphs.specs.Graphs.{choice_arcs}
use Rattle.shape_graphs.proofs.graphs.push_choices.Given as goal

abbrev pub invariant-loop-i : goal.invariant-loop-i
invariant-loop-i l =
    (l.columns ≡ l.initial.columns ++ choice_arcs X l.bars (take l.i l.choices))
    × (l.rows ≡ l.initial.rows ++ choice_arcs Y l.bars (take l.i l.choices))
