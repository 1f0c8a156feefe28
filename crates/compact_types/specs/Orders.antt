-- The order of drawings.
use Rattle.std.specs.Prelude.{◌≡◌, ℕ, ◌<◌, ℤ, ◌<ℤ◌, List, [], ◌∷◌, ◌⊎◌, ◌↔◌}
use Rattle.std.specs.declared.cmp.Ordering.{Ordering}
use Rattle.std.specs.declared.cmp.Ordering.TheVariants.{Less, Equal, Greater}
use Rattle.compact_types.specs.declared.places.Point.{Point}
use Rattle.compact_types.specs.declared.places.Key.{Key}

-- the numbers x0, y0, x1, y1, .. of some points
abbrev pub numbers_of : List Point → List ℤ
numbers_of [] = []
numbers_of (point ∷ points) = point.x ∷ point.y ∷ numbers_of points

-- at the first difference of two equally long lists the first has the lesser number
abbrev pub IsListBefore : List ℤ → List ℤ → Type 0
IsListBefore [] numbers = ⊥
IsListBefore (a ∷ before) [] = ⊥
IsListBefore (a ∷ before) (b ∷ after) = (a <ℤ b) ⊎ ((a ≡ b) × IsListBefore before after)

-- a key with equally many points comes before another: its worth is less, or equal with the lesser
-- list of numbers
abbrev pub IsBefore : Key → Key → Type 0
IsBefore k l =
    (k.worth <ℤ l.worth)
    ⊎ ((k.worth ≡ l.worth) × IsListBefore (numbers_of k.places.xy) (numbers_of l.places.xy))

-- the first point comes before the second: its x is less, or equal with the lesser y
abbrev pub IsPointBefore : Point → Point → Type 0
IsPointBefore a b = (a.x <ℤ b.x) ⊎ ((a.x ≡ b.x) × (a.y <ℤ b.y))

-- the pair i, j comes before the pair p, q in the order of the list
abbrev pub IsPairBefore : ℕ → ℕ → ℕ → ℕ → Type 0
IsPairBefore i j p q = (i < p) ⊎ ((i ≡ p) × (j < q))

-- the answer of a comparison says exactly how the keys are ordered
pub record SaysOrder (k l : Key) (order : Ordering) : Type 0 where
  pub less : (order ≡ Less) ↔ IsBefore k l
  pub equal : (order ≡ Equal) ↔ (k ≡ l)
  pub greater : (order ≡ Greater) ↔ IsBefore l k
