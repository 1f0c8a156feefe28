use Rattle.std.proofs.Common.{◌≡◌, ℕ, ◌<◌, length, slice_index}
use Rattle.compact_types.proofs.groups.single_groups.Given as goal

abbrev pub invariant-loop-number : goal.invariant-loop-number
invariant-loop-number l = (length l.leads.items ≡ l.number) × ((v : ℕ) → v < l.number → slice_index l.leads.items v ≡ v)
