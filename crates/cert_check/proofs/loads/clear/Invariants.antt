use Rattle.std.proofs.Common.{◌≡◌, ◌<◌, ◌⊎◌, ℕ, length, drop}
use Rattle.shape_graphs.specs.Flows.{amount_at}
use Rattle.cert_text.specs.Loads.{amount_on}
use Rattle.cert_check.proofs.loads.clear.Given as goal

abbrev pub invariant-loop-k : goal.invariant-loop-k
invariant-loop-k l = record {
  long : length l.amounts ≡ length l.initial.amounts;
  cleared : (i : ℕ) → i < length l.amounts →
      (amount_at l.amounts i ≡ 0) ⊎ (amount_at l.amounts i ≡ amount_on (drop l.k l.loads) i);
}
