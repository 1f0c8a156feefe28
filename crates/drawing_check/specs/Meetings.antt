-- Where two pieces meet that may not.
use Rattle.std.specs.Prelude.{ℕ, ◌<◌, length}
use Rattle.compact_types.specs.declared.places.Point.{Point}
use Rattle.compact_types.specs.declared.places.Places.{Places}
use Rattle.compact_types.specs.declared.plan.Plan.{Plan}
use Rattle.compact_types.specs.Drawings.{OnPiece, MayShare}
use Rattle.compact_types.specs.Orders.{IsPairBefore}
use Rattle.drawing_check.specs.Points.{IsLeastPoint}

-- the point z lies on the pieces i and j, which may not share it
pub record Meets (plan : Plan) (places : Places) (i j : ℕ) (z : Point) : Type 0 where
  pub on_first : OnPiece plan places i z
  pub on_second : OnPiece plan places j z
  pub forbidden : MayShare plan places i j z → ⊥

-- p before q is the first pair of pieces that meet, and z the least point where they do
pub record IsFirstMeeting (plan : Plan) (places : Places) (p q : ℕ) (z : Point) : Type 0 where
  pub in_order : p < q
  pub in_plan : q < length plan.pieces
  pub least : IsLeastPoint (Meets plan places p q) z
  pub first : (i j : ℕ) → i < j → j < length plan.pieces → IsPairBefore i j p q →
      (w : Point) → Meets plan places i j w → ⊥
