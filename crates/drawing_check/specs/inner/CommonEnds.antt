-- The vertex in which two pieces end.
use Rattle.std.specs.Prelude.{◌≡◌, ℕ}
use Rattle.compact_types.specs.declared.plan.Piece.{Piece}
use Rattle.compact_types.specs.Lookups.{IsEnd, HaveSameEnds}

-- both pieces end in the vertex, in no other, and do not have both ends in common
pub record IsOnlyCommonEnd (p q : Piece) (vertex : ℕ) : Type 0 where
  pub on_first : IsEnd vertex p
  pub on_second : IsEnd vertex q
  pub only : (other : ℕ) → IsEnd other p → IsEnd other q → other ≡ vertex
  pub apart : HaveSameEnds p q → ⊥
