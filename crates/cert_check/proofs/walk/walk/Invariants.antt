use Rattle.std.proofs.Common.{◌∷◌}
use Rattle.cert_check.specs.inner.Branches.{IsAt, later}
use Rattle.cert_check.proofs.WalkLemmas.{IsAtEntry}
use Rattle.cert_check.proofs.walk.walk.Given as goal

abbrev pub invariant-loop-entry : goal.invariant-loop-entry
invariant-loop-entry l = record {
  at : IsAt l.bars l.branch;
  way : IsAtEntry l.bars l.answer.places.now l.nodes l.entry (l.branch.choices ∷ later l.branch.choices);
}
