-- Numbers in groups: each leads to one that is not greater, and at the end of that walk is the
-- least number of its group.
use Rattle.std.specs.Prelude.{◌≡◌, ℕ, ◌<◌, ◌≤◌, List, length, slice_index, min, max, if◌then◌else◌, ◌==◌}

-- each leads to one that is not greater
abbrev pub GoDown : List ℕ → Type 0
GoDown leads = (v : ℕ) → v < length leads → slice_index leads v ≤ v

-- the label of each is the least of its group
pub record IsLabelling (leads : List ℕ) (labels : ℕ → ℕ) : Type 0 where
  pub on : (v : ℕ) → v < length leads → labels (slice_index leads v) ≡ labels v
  pub ends : (v : ℕ) → v < length leads → slice_index leads v ≡ v → labels v ≡ v

-- the labels once the groups of two numbers are one
abbrev pub merged : (ℕ → ℕ) → ℕ → ℕ → ℕ → ℕ
merged labels p q v =
    if labels v == max (labels p) (labels q) then min (labels p) (labels q) else labels v
