-- Which fault of a plan and its places is the first.
use Rattle.std.specs.Prelude.{ℕ, ◌<◌, length}
use Rattle.compact_types.specs.declared.places.Places.{Places}
use Rattle.compact_types.specs.declared.plan.Plan.{Plan}
use Rattle.compact_types.specs.Connected.{IsJoined, IsConnected}
use Rattle.drawing_check.specs.declared.fault.ShapeFault.{ShapeFault}
use Rattle.drawing_check.specs.declared.fault.ShapeFault.TheVariants.{ZeroPiece, Slanted, Disconnected, Meeting}
use Rattle.drawing_check.specs.Courses.{HasNoLength, IsSlanted, AllHaveWays}
use Rattle.drawing_check.specs.Meetings.{IsFirstMeeting}

-- P holds of v below n, and of no lesser number
abbrev pub IsFirst : (ℕ → Type 0) → ℕ → ℕ → Type 0
IsFirst P n v = (v < n) × P v × ((u : ℕ) → u < v → P u → ⊥)

-- the vertex is not joined with vertex 0, and every lesser one is
abbrev pub IsFirstApart : Plan → ℕ → Type 0
IsFirstApart plan v = (v < plan.vertices) × (IsJoined plan v → ⊥) × ((u : ℕ) → u < v → IsJoined plan u)

-- the fault is there, and none that is asked for before it
abbrev pub FirstShapeFault : Plan → Places → ShapeFault → Type 0
FirstShapeFault plan places (ZeroPiece p) = IsFirst (HasNoLength plan places) (length plan.pieces) p
FirstShapeFault plan places (Slanted p) =
    ((i : ℕ) → i < length plan.pieces → HasNoLength plan places i → ⊥) × IsFirst (IsSlanted plan places) (length plan.pieces) p
FirstShapeFault plan places (Disconnected v) = AllHaveWays plan places × IsFirstApart plan v
FirstShapeFault plan places (Meeting p q x y) =
    AllHaveWays plan places × IsConnected plan × IsFirstMeeting plan places p q (record { x = x; y = y })
