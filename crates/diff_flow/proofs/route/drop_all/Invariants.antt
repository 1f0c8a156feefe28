use Rattle.diff_flow.specs.inner.Routing.{AreDropped, KeepsBalance}
use Rattle.diff_flow.proofs.route.drop_all.Given as goal

abbrev pub invariant-loop-i : goal.invariant-loop-i
invariant-loop-i l = record {
  dropped : AreDropped l.steps.nodes l.steps.arcs l.i l.steps.list.items l.numbers l.amounts l.over l.want;
  kept : KeepsBalance l.steps.nodes l.steps.arcs l.steps.list.items l.initial.amounts l.initial.over l.initial.want l.amounts l.over l.want;
}
