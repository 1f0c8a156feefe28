use Rattle.compact_types.specs.declared.places.Places.{Places}
use Rattle.potentials.specs.Standing.{StandAt, numbers_along}
use Rattle.cert_check.specs.inner.Comparing.{AreSameBelow}
use Rattle.cert_check.proofs.earlier.first_less.Given as goal

abbrev pub invariant-loop-v : goal.invariant-loop-v
invariant-loop-v l = (places : Places) → StandAt l.bars (numbers_along l.across l.up) places → AreSameBelow places.xy l.points l.v
