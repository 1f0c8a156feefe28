use Rattle.std.proofs.Common.{◌<◌, ◌≤◌, ◌-◌, length}
use Rattle.reach_rows.specs.inner.Buckets.{IsInBucket}
use Rattle.reach_rows.proofs.BucketLemmas.{AreTaken, IsFrom, IsFromEntry}
use Rattle.reach_rows.proofs.adding.take_by_bucket.Given as goal

abbrev pub invariant-loop-number : goal.invariant-loop-number
invariant-loop-number l = record {
  within : l.number ≤ length l.numbers;
  taken : AreTaken l.words l.nodes l.bits l.arcs (IsFrom l.arcs l.numbers l.number);
}

abbrev pub decreases-loop-number : goal.decreases-loop-number
decreases-loop-number l = l.number

abbrev pub invariant-loop-entry : goal.invariant-loop-entry
invariant-loop-entry l = record {
  inside : l.entry ≤ length l.arcs;
  in_bucket : 0 < l.entry → IsInBucket l.arcs l.numbers l.number (l.entry - 1);
  taken : AreTaken l.words l.nodes l.bits l.arcs (IsFromEntry l.arcs l.numbers l.number l.entry);
}

abbrev pub decreases-loop-entry : goal.decreases-loop-entry
decreases-loop-entry l = l.entry
