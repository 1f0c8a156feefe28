use Rattle.std.proofs.Common.{List, length, sym, ap, subst, arith}
use Rattle.compact_types.proofs.Laws.{decides_by_one_answer}
use Rattle.gml_text.specs.declared.tree.Pair.{Pair}
use Rattle.gml_text.specs.declared.tree.Tree.{out-Tree}
use Rattle.drawing_read.specs.Readings.{IsWithinLimits}
use Rattle.drawing_read.specs.inner.Legible.{AreLegible}
use Rattle.drawing_read.proofs.LegibleLemmas.{legible_tree, few_pairs}
use Rattle.drawing_read.proofs.ReadingLemmas.{one_answer, reading_of_only, fault_of_only, fault_of_graphs, if_reading}
use Rattle.drawing_read.proofs.ReadingLimits.{reading_within_limits}
use Rattle.drawing_read.proofs.read.read_drawing.Goals as goal

pub graph_reading-requires-clause-place : goal.graph_reading-requires-clause-place
graph_reading-requires-clause-place c =
    let same = ap length c.as_slice.ensures in
    let within = c.in-Ok.ensures.ok.within in
    omega (arith, few_pairs (out-Tree c.args.tree.now).pairs (legible_tree c.args.tree.now c.requires), same)

pub graph_reading-requires-clause-pairs : goal.graph_reading-requires-clause-pairs
graph_reading-requires-clause-pairs c =
    c.in-Ok.ensures.ok.legible (subst (λ (pairs : List Pair). AreLegible pairs) (sym c.as_slice.ensures) (legible_tree c.args.tree.now c.requires))

pub returns-in-Ok-clause-decides : goal.returns-in-Ok-clause-decides
returns-in-Ok-clause-decides c =
    let tree = c.args.tree.now in
    let pairs = c.as_slice.result.now in
    let graph = c.in-Ok.graph in
    decides_by_one_answer c.graph_reading.result
    (reading_of_only tree pairs graph.place graph.pairs.now c.as_slice.ensures c.in-Ok.ensures.ok c.graph_reading.result c.graph_reading.ensures.reading)
    (fault_of_only tree pairs graph.place graph.pairs.now c.as_slice.ensures c.in-Ok.ensures.ok c.graph_reading.result c.graph_reading.ensures.fault)
    (one_answer tree)

pub returns-in-Ok-clause-limits : goal.returns-in-Ok-clause-limits
returns-in-Ok-clause-limits c =
    let tree = c.args.tree.now in
    let graph = c.in-Ok.graph in
    if_reading tree c.graph_reading.result IsWithinLimits (reading_within_limits tree)
    (reading_of_only tree c.as_slice.result.now graph.place graph.pairs.now c.as_slice.ensures c.in-Ok.ensures.ok c.graph_reading.result c.graph_reading.ensures.reading)

pub returns-in-Err-clause-decides : goal.returns-in-Err-clause-decides
returns-in-Err-clause-decides c =
    let tree = c.args.tree.now in
    decides_by_one_answer _ tt (fault_of_graphs tree c.as_slice.result.now c.in-Err.fault c.as_slice.ensures c.in-Err.ensures.fault) (one_answer tree)
