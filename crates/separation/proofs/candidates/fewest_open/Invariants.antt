use Rattle.std.proofs.Common.{List, Some}
use Rattle.compact_types.specs.declared.places.Axis.{Axis}
use Rattle.compact_types.specs.declared.places.Places.{Places}
use Rattle.compact_types.specs.declared.search.Choice.{Choice}
use Rattle.separation.specs.inner.Candidates.{IsBestOf, IsSetting}
use Rattle.separation.specs.inner.Extents.{AreExtentsAlong, BeginInOrder}
use Rattle.separation.specs.inner.Sweeps.{IsNextSharing, IsSwept, left_from}
use Rattle.separation.proofs.candidates.fewest_open.Given as goal

-- the best of the pairs so far
abbrev pub invariant-loop-found : goal.invariant-loop-found
invariant-loop-found l =
    (axis : Axis) (choices : List Choice) (places : Places) → IsSetting l.bars choices places l.reach → AreExtentsAlong axis l.bars places l.extents → BeginInOrder l.extents →
    IsNextSharing l.bars places l.extents (record { first = 0; second = 1 }) (Some l.fn.first) →
    IsBestOf l.bars choices places (IsSwept l.extents l.at) l.best

abbrev pub decreases-loop-found : goal.decreases-loop-found
decreases-loop-found l = left_from l.extents l.at
