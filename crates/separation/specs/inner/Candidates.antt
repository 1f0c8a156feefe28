-- The best pair so far of a walk over pairs.
use Rattle.std.specs.Prelude.{ℕ, Bool, ◌&&◌, ◌||◌, ◌==◌, nat_lt, List, if◌then◌else◌}
use Rattle.compact_types.specs.declared.places.Places.{Places}
use Rattle.compact_types.specs.declared.search.Choice.{Choice}
use Rattle.compact_types.specs.declared.plan.Shape.{Shape}
use Rattle.compact_types.specs.Drawings.{HasWays}
use Rattle.bars.specs.Segments.{IsPair}
use Rattle.bars.specs.Solutions.{HasDrawing}
use Rattle.separation.specs.declared.candidates.Candidate.{Candidate}
use Rattle.separation.specs.declared.sides.Reach.{Reach}
use Rattle.separation.specs.Branching.{IsNotAfter}
use Rattle.separation.specs.Meetings.{ShareAPoint}
use Rattle.separation.specs.Reaching.{IsReachOf, HasOpenSides}

-- whether the first has fewer open sides, or as many and comes before the second in list order
abbrev pub comes_before : Candidate → Candidate → Bool
comes_before c d =
    nat_lt c.open d.open || ((c.open == d.open) && (nat_lt c.s d.s || ((c.s == d.s) && nat_lt c.t d.t)))

-- the first of two
abbrev pub first_candidate : Candidate → Candidate → Candidate
first_candidate best candidate = if comes_before candidate best then candidate else best

-- what the walk rests on
pub record IsSetting (shape : Shape) (choices : List Choice) (places : Places) (reach : Reach) : Type 0 where
  pub drawing : HasDrawing shape
  pub reach_of : IsReachOf shape choices reach
  pub ways : HasWays shape places

-- the pair shares a point and has so many open sides
pub record IsCandidate (shape : Shape) (choices : List Choice) (places : Places) (c : Candidate) : Type 0 where
  pub pair : IsPair shape c.s c.t
  pub share : ShareAPoint shape places c.s c.t
  pub open_sides : HasOpenSides shape choices c.s c.t c.open

-- the candidate does not come after the pair
abbrev pub Covers : Shape → List Choice → Candidate → ℕ → ℕ → Type 0
Covers shape choices best s t =
    (n : ℕ) → HasOpenSides shape choices s t n → IsNotAfter best.open best.s best.t n s t

-- of the pairs that were looked at, none that shares a point comes before the best so far
pub record IsBestOf (shape : Shape) (choices : List Choice) (places : Places) (Seen : ℕ → ℕ → Type 0) (best : Candidate) : Type 0 where
  pub candidate : IsCandidate shape choices places best
  pub covered : (s t : ℕ) → Seen s t → IsPair shape s t → ShareAPoint shape places s t → Covers shape choices best s t
