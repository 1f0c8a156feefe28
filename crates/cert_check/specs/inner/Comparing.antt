-- The order of two lists of points.
use Rattle.std.specs.Prelude.{◌≡◌, ℕ, ◌<◌, List, length}
use Rattle.compact_types.specs.declared.places.Point.{Point}
use Rattle.compact_types.specs.Lookups.{place}
use Rattle.compact_types.specs.Orders.{IsListBefore, IsPointBefore, numbers_of}

-- the points are equal below the vertex
abbrev pub AreSameBelow : List Point → List Point → ℕ → Type 0
AreSameBelow points others vertex =
    (before : ℕ) → before < vertex → place points before ≡ place others before

-- the points come before the others, and first differ at the vertex
pub record IsFirstLess (points others : List Point) (vertex : ℕ) : Type 0 where
  pub inside : vertex < length points
  pub same_before : AreSameBelow points others vertex
  pub less : IsPointBefore (place points vertex) (place others vertex)

-- the points do not come before the others
abbrev pub IsNotFirstLess : List Point → List Point → Type 0
IsNotFirstLess points others = IsListBefore (numbers_of points) (numbers_of others) → ⊥
