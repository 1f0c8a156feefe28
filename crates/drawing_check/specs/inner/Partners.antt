-- Pieces that do not meet, and the first piece that meets a given one.
use Rattle.std.specs.Prelude.{◌≡◌, ℕ, ◌<◌, length}
use Rattle.compact_types.specs.declared.places.Places.{Places}
use Rattle.compact_types.specs.declared.places.Point.{Point}
use Rattle.compact_types.specs.declared.plan.Plan.{Plan}
use Rattle.compact_types.specs.Drawings.{OnPiece, MayShare}
use Rattle.drawing_check.specs.declared.meeting.Meeting.{Meeting}
use Rattle.drawing_check.specs.Points.{IsLeastPoint}
use Rattle.drawing_check.specs.Meetings.{Meets}

-- the pieces i and j share no point that they may not share
abbrev pub IsApart : Plan → Places → ℕ → ℕ → Type 0
IsApart plan places i j =
    (z : Point) → OnPiece plan places i z → OnPiece plan places j z → MayShare plan places i j z

-- each of the first n pieces is apart from all that follow it
pub record ArePiecesApart (plan : Plan) (places : Places) (n : ℕ) : Type 0 where
  pub apart : (p q : ℕ) → p < n → p < q → q < length plan.pieces → IsApart plan places p q

-- of all pieces after p the second of the meeting is the first that meets p
pub record IsFirstPartner (plan : Plan) (places : Places) (p : ℕ) (meeting : Meeting) : Type 0 where
  pub is_first : meeting.first ≡ p
  pub in_order : p < meeting.second
  pub in_plan : meeting.second < length plan.pieces
  pub least : IsLeastPoint (Meets plan places p meeting.second) meeting.point
  pub earlier : (j : ℕ) → p < j → j < meeting.second → IsApart plan places p j
