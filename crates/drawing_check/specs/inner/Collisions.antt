-- Two pieces by the places of their ends, and the points that they cover.
use Rattle.std.specs.Prelude.{◌≡◌, ℕ, List}
use Rattle.compact_types.specs.declared.places.Point.{Point}
use Rattle.compact_types.specs.declared.plan.Piece.{Piece}
use Rattle.compact_types.specs.Lookups.{place, IsEnd, HaveSameEnds}
use Rattle.compact_types.specs.Segments.{OnSegment}
use Rattle.drawing_check.specs.declared.covered.Covered.{Covered}
use Rattle.drawing_check.specs.inner.Spans.{IsInside}

-- the point lies on the piece, where its ends have these places
abbrev pub IsOn : List Point → Piece → Point → Type 0
IsOn points piece z = OnSegment (place points piece.from) (place points piece.to) z

-- the points of the piece are those of its extent
abbrev pub HasPointsOfExtent : List Point → Covered → Type 0
HasPointsOfExtent points covered =
    (z : Point) → (IsOn points covered.piece z → IsInside covered.extent z) × (IsInside covered.extent z → IsOn points covered.piece z)

-- the pieces may share z, where their ends have these places
abbrev pub IsAllowed : List Point → Piece → Piece → Point → Type 0
IsAllowed points p q z =
    ((vertex : ℕ) × IsEnd vertex p × IsEnd vertex q × (place points vertex ≡ z)) × (HaveSameEnds p q → ⊥)

-- the pieces share no point but one that they may share
abbrev pub SharesAllowed : List Point → Piece → Piece → Type 0
SharesAllowed points p q = (z : Point) → IsOn points p z → IsOn points q z → IsAllowed points p q z

-- the point z lies on both pieces, which may not share it
abbrev pub Collides : List Point → Piece → Piece → Point → Type 0
Collides points p q z = IsOn points p z × IsOn points q z × (IsAllowed points p q z → ⊥)
