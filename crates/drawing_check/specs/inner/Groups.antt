-- The groups of vertices that the pieces of a plan join.
use Rattle.std.specs.Prelude.{◌≡◌, ◌≢◌, ℕ, ◌<◌, List, length, slice_index}
use Rattle.compact_types.specs.declared.plan.Plan.{Plan}
use Rattle.compact_types.specs.Groups.{GoDown, IsLabelling}
use Rattle.compact_types.specs.Lookups.{piece_at}
use Rattle.compact_types.specs.Connected.{IsJoined}

-- each of the two vertices is joined with vertex 0 where the other is
abbrev pub BothJoined : Plan → ℕ → ℕ → Type 0
BothJoined plan v w = (IsJoined plan v → IsJoined plan w) × (IsJoined plan w → IsJoined plan v)

-- labels of the groups that the first n pieces of the plan make
pub record AreLabels (plan : Plan) (n : ℕ) (labels : ℕ → ℕ) : Type 0 where
  pub joined : (v : ℕ) → v < plan.vertices → BothJoined plan v (labels v)
  pub same : (i : ℕ) → i < n →
      labels (piece_at plan.pieces i).from ≡ labels (piece_at plan.pieces i).to

-- the list leads down in the groups that the first n pieces of the plan make
pub record AreGroups (plan : Plan) (n : ℕ) (leads : List ℕ) : Type 0 where
  pub one_for_each : length leads ≡ plan.vertices
  pub down : GoDown leads
  pub labels : ℕ → ℕ
  pub labelling : IsLabelling leads labels
  pub of_groups : AreLabels plan n labels

-- v after 0 is the first that leads to itself
pub record IsSecondLeast (leads : List ℕ) (v : ℕ) : Type 0 where
  pub after : 0 < v
  pub inside : v < length leads
  pub leads_to_itself : slice_index leads v ≡ v
  pub first : (u : ℕ) → 0 < u → u < v → slice_index leads u ≢ u
