use Rattle.std.proofs.Common.{◌≡◌, ◌≤◌, length, drop}
use Rattle.cert_check.specs.inner.Loading.{HaveLoads}
use Rattle.cert_check.proofs.loads.put.Given as goal

abbrev pub invariant-loop-k : goal.invariant-loop-k
invariant-loop-k l = record {
  within : l.k ≤ length l.loads;
  long : length l.amounts ≡ length l.initial.amounts;
  loaded : HaveLoads l.amounts (drop l.k l.loads);
}

abbrev pub decreases-loop-k : goal.decreases-loop-k
decreases-loop-k l = l.k
