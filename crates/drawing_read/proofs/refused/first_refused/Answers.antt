use Rattle.drawing_read.proofs.RefusedLemmas.{refused_so_far}
use Rattle.drawing_read.proofs.refused.first_refused.Goals as goal

pub returns : goal.returns
returns c =
    refused_so_far c.args.graph.now c.with_nodes.result c.with_edges.result
    (rw c.as_slice.ensures at c.with_nodes.ensures) (rw c.as_slice-2.ensures at c.with_edges.ensures)
