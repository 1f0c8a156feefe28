use Rattle.std.proofs.Common.{◌≡◌, ℕ, ◌<◌, length}
use Rattle.compact_types.specs.Groups.{GoDown, IsLabelling}
use Rattle.compact_types.proofs.groups.least_of_group.Given as goal

abbrev pub invariant-loop-leads : goal.invariant-loop-leads
invariant-loop-leads l = record {
  inside : l.at < length l.leads;
  down : GoDown l.leads;
  labels : (labels : ℕ → ℕ) → IsLabelling l.initial.leads labels → IsLabelling l.leads labels;
  label : (labels : ℕ → ℕ) → IsLabelling l.initial.leads labels → labels l.fn.number ≡ labels l.at;
}

abbrev pub decreases-loop-leads : goal.decreases-loop-leads
decreases-loop-leads l = l.at
