use Rattle.std.proofs.Common.{sym, ◌∙◌, ap}
use Rattle.drawing_read.specs.Faults.{fault_of}
use Rattle.drawing_read.proofs.GraphLemmas.{two_graphs, one_graph}
use Rattle.drawing_read.proofs.read.only_graph.Goals as goal

pub returns-in_default-clause-fault : goal.returns-in_default-clause-fault
returns-in_default-clause-fault c = ap fault_of c.in_default.ensures

pub returns-then-is_some-clause-fault : goal.returns-then-is_some-clause-fault
returns-then-is_some-clause-fault c =
    two_graphs c.args.pairs.now c.in-Some.graph.place c.in-Some.graph.pairs.now c.behind.result.now c.first_graph-2.result c.in-Some.ensures
    c.behind.ensures c.first_graph-2.ensures (sym c.is_some.ensures ∙ c.if-is_some.true)

pub returns-clause-ok : goal.returns-clause-ok
returns-clause-ok c =
    one_graph c.args.pairs.now c.in-Some.graph.place c.in-Some.graph.pairs.now c.behind.result.now c.first_graph-2.result c.in-Some.ensures
    c.behind.ensures c.first_graph-2.ensures (sym c.is_some.ensures ∙ c.if-is_some.false)
