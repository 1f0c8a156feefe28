use Rattle.std.proofs.Common.{◌≡◌, length}
use Rattle.cert_check.specs.inner.Branches.{IsAt, later}
use Rattle.cert_check.proofs.sides.next_branch.Given as goal

abbrev pub invariant-loop-choice : goal.invariant-loop-choice
invariant-loop-choice l = record {
  at : IsAt l.bars l.branch;
  same : later l.initial.branch.choices ≡ later l.branch.choices;
}

abbrev pub decreases-loop-choice : goal.decreases-loop-choice
decreases-loop-choice l = length l.branch.choices
