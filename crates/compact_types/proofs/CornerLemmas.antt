-- Points are moved so that their corner comes to the origin.
use Rattle.std.proofs.Common.{ap, set, ◌≡◌, ℕ, ◌+◌, ◌<◌, ◌≤◌, ◌⊎◌, inl, inr, ℤ, pos, List, length, refl, sym, subst, ◌∙◌, arith}
use Rattle.std.specs.Prelude.{◌-ℤ◌, ◌≤ℤ◌}
use Rattle.std.specs.Int.{int_min}
use Rattle.std.proofs.lemmas.Bool.{cases_lt}
use Rattle.std.proofs.lemmas.Int.{ints, clamps, by_lt_z}
use Rattle.std.proofs.lemmas.List.{ext_get_or, get_or-set_same, get_or-set_other}
use Rattle.compact_types.specs.declared.places.Axis.{Axis}
use Rattle.compact_types.specs.declared.places.Axis.TheVariants.{X, Y}
use Rattle.compact_types.specs.declared.places.Point.{Point}
use Rattle.compact_types.specs.declared.places.Places.{Places}
use Rattle.compact_types.specs.Drawings.{IsFromZero}
use Rattle.compact_types.specs.Lookups.{origin, place, along}
use Rattle.compact_types.specs.Magnitudes.{IsWithin, IsPointWithin, AreWithin}
use Rattle.compact_types.specs.Moves.{moved}
use Rattle.compact_types.specs.inner.Corners.{IsLeastAlong, IsCorner, seen_from}
use Rattle.compact_types.proofs.MoveLemmas.{length-moved, place-moved, least_zero-moved}
use Rattle.compact_types.proofs.OneBest.{same_point, same_places}

-- a point with these coordinates is the point, moved as the corner is moved to the origin
pub seen_from_parts : (corner point seen : Point) → seen.x ≡ point.x -ℤ corner.x → seen.y ≡ point.y -ℤ corner.y → seen ≡ seen_from corner point
seen_from_parts corner point seen x y = same_point _ _ (omega (arith, ints, x)) (omega (arith, ints, y))

-- the corner of one point is that point
pub corner_of_one : (points : List Point) → IsCorner points 1 (place points 0)
corner_of_one points axis = record {
  none_below = λ v below. let first : v ≡ 0 = omega (arith, below) in rw first (omega (arith, ints));
  reached = (0, omega arith, refl);
}

-- the least number, with one point more
least_one_more : (axis : Axis) (points : List Point) (count more : ℕ) (old new : ℤ) → more ≡ count + 1 → IsLeastAlong axis points count old →
    new ≡ int_min old (along axis (place points count)) → IsLeastAlong axis points more new
least_one_more axis points count more old new next least is = record {
  none_below = λ v below. by_place v (cases_lt v count) below;
  reached = by_lt_z (along axis (place points count)) old
      (λ less. (count, omega (arith, next), omega (arith, ints, clamps, is, less)))
      (λ not_less. (
        least.reached.0,
        let inside = least.reached.1 in omega (arith, inside, next),
        let there = least.reached.2 in omega (arith, ints, clamps, is, not_less, there),
      ));
}
  where
    by_place : (v : ℕ) → (v < count) ⊎ (count ≤ v) → v < more → new ≤ℤ along axis (place points v)
    by_place v (inl before) below = let front = least.none_below v before in omega (arith, ints, clamps, is, front)
    by_place v (inr after) below =
        let last : v ≡ count = omega (arith, after, below, next) in rw last (omega (arith, ints, clamps, is))

-- the corner, with one point more
pub corner_one_more : (points : List Point) (count more : ℕ) (old new : Point) → more ≡ count + 1 → IsCorner points count old →
    new.x ≡ int_min old.x (place points count).x → new.y ≡ int_min old.y (place points count).y → IsCorner points more new
corner_one_more points count more old new next corner x y X = least_one_more X points count more old.x new.x next (corner X) x
corner_one_more points count more old new next corner x y Y = least_one_more Y points count more old.y new.y next (corner Y) y

-- all points were taken
pub corner_of_all : (points : List Point) (count : ℕ) (corner : Point) → 0 < length points → count ≡ length points → IsCorner points count corner →
    IsCorner points (length points) corner
corner_of_all points count corner some all is = subst (λ (n : ℕ). IsCorner points n corner) all is

-- the corner is no farther out than the points
pub corner_within : (bound : ℕ) (places : Places) (points : List Point) (corner : Point) → points ≡ places.xy → AreWithin bound places →
    IsCorner points (length points) corner → IsPointWithin bound corner
corner_within bound places points corner same near is = (by_axis X, by_axis Y)
  where
    by_axis : (axis : Axis) → IsWithin bound (along axis corner)
    by_axis axis =
        let least = is axis in
        let inside : least.reached.0 < length places.xy =
        subst (λ (l : List Point). least.reached.0 < length l) same least.reached.1 in
        subst (λ (z : ℤ). IsWithin bound z) (subst (λ (l : List Point). along axis (place l least.reached.0) ≡ along axis corner) same least.reached.2)
        (near axis least.reached.0 inside)

-- the point of a vertex is within the bound where the points were
pub point_within : (bound : ℕ) (before : Places) (points : List Point) (v : ℕ) → AreWithin bound before → length points ≡ length before.xy →
    v < length points → place points v ≡ place before.xy v → IsPointWithin bound (place points v)
point_within bound before points v near long inside same =
    let here : v < length before.xy = omega (arith, inside, long) in
    subst (λ (p : Point). IsPointWithin bound p) (sym same) (near X v here, near Y v here)

-- the points so far, with one more
pub one_more_shifted : (before now after : List Point) (corner seen : Point) (v n : ℕ) → n ≡ v + 1 → v < length now → after ≡ set now v seen →
    seen ≡ seen_from corner (place before v) → ((k : ℕ) → k < v → place now k ≡ seen_from corner (place before k)) →
    (k : ℕ) → k < n → place after k ≡ seen_from corner (place before k)
one_more_shifted before now after corner seen v n next inside is here so_far k below =
    ap (λ (l : List Point). place l k) is ∙ by_place (cases_lt k v)
  where
    by_place : (k < v) ⊎ (v ≤ k) → place (set now v seen) k ≡ seen_from corner (place before k)
    by_place (inl less) = get_or-set_other now v k seen origin (omega (arith, less)) ∙ so_far k less
    by_place (inr more) = let last : k ≡ v = omega (arith, more, below, next) in rw last (get_or-set_same now v seen origin inside ∙ here)

-- the other points
pub others_not_shifted : (before now after : List Point) (seen : Point) (v n : ℕ) → n ≡ v + 1 → after ≡ set now v seen →
    ((k : ℕ) → v ≤ k → place now k ≡ place before k) → (k : ℕ) → n ≤ k → place after k ≡ place before k
others_not_shifted before now after seen v n next is others k above =
    ap (λ (l : List Point). place l k) is ∙ get_or-set_other now v k seen origin (omega (arith, above, next)) ∙ others k (omega (arith, above, next))

-- points that were all moved
pub all_shifted : (before after : Places) (n : ℕ) (corner : Point) → length after.xy ≡ length before.xy → length before.xy ≤ n →
    ((k : ℕ) → k < n → place after.xy k ≡ seen_from corner (place before.xy k)) → after ≡ moved (pos 0 -ℤ corner.x) (pos 0 -ℤ corner.y) before
all_shifted before after n corner long all each =
    same_places after (moved (pos 0 -ℤ corner.x) (pos 0 -ℤ corner.y) before)
    (ext_get_or origin after.xy _ (long ∙ sym (length-moved (pos 0 -ℤ corner.x) (pos 0 -ℤ corner.y) before.xy))
    (λ k inside. each k (omega (arith, inside, long, all)) ∙ sym (place-moved _ _ before.xy k (omega (arith, inside, long)))))

-- points whose corner was moved to the origin are from zero
pub from_zero-shifted : (before after : Places) (points : List Point) (corner : Point) → points ≡ before.xy → IsCorner points (length points) corner →
    after ≡ moved (pos 0 -ℤ corner.x) (pos 0 -ℤ corner.y) before → IsFromZero after
from_zero-shifted before after points corner same is shifted =
    let corner_of_before = subst (λ (l : List Point). IsCorner l (length l) corner) same is in
    subst IsFromZero (sym shifted) (by_axis corner_of_before)
  where
    by_axis : IsCorner before.xy (length before.xy) corner → IsFromZero (moved (pos 0 -ℤ corner.x) (pos 0 -ℤ corner.y) before)
    by_axis least X =
        let is_x = least X in
        let there = is_x.reached.2 in
        least_zero-moved X before _ _ is_x.reached.0 is_x.reached.1
        (λ w inside. let below = is_x.none_below w inside in omega (arith, ints, below, there)) (omega (arith, ints, there))
    by_axis least Y =
        let is_y = least Y in
        let there = is_y.reached.2 in
        least_zero-moved Y before _ _ is_y.reached.0 is_y.reached.1
        (λ w inside. let below = is_y.none_below w inside in omega (arith, ints, below, there)) (omega (arith, ints, there))
