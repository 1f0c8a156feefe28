use Rattle.std.proofs.Common.{◌≡◌, ℕ, ◌<◌, length, pos}
use Rattle.shape_graphs.specs.Flows.{number_at}
use Rattle.diff_flow.specs.inner.Numbers.{height}
use Rattle.diff_flow.proofs.growing.unsigned.Given as goal

abbrev pub invariant-loop-i : goal.invariant-loop-i
invariant-loop-i l = record {
  count : length l.list.items ≡ l.i;
  each : (v : ℕ) → v < l.i → pos (height l.list.items v) ≡ number_at l.numbers v;
}
