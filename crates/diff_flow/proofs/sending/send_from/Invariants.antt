use Rattle.std.proofs.Common.{◌-◌, ◌*◌, ◌≤◌, ℕ, slice_index}
use Rattle.diff_flow.specs.inner.Search.{IsBlank}
use Rattle.diff_flow.specs.inner.Routing.{IsRouting, KeepsBalance}
use Rattle.diff_flow.proofs.sending.send_from.Given as goal

abbrev pub invariant-loop-over : goal.invariant-loop-over
invariant-loop-over l = record {
  routing : IsRouting l.steps.nodes l.steps.arcs ((l.steps.nodes - 1) * l.steps.reach) l.steps.list.items
      l.amounts l.numbers l.over l.want;
  blank : IsBlank l.steps.nodes l.tree.entries.items l.tree.places.items;
  kept : KeepsBalance l.steps.nodes l.steps.arcs l.steps.list.items l.initial.amounts l.initial.over l.initial.want l.amounts l.over l.want;
  less : (v : ℕ) → slice_index l.over v ≤ slice_index l.initial.over v;
}

abbrev pub decreases-loop-over : goal.decreases-loop-over
decreases-loop-over l = slice_index l.over l.node
