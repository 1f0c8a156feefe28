-- Points that are divided one by one.
use Rattle.std.proofs.Common.{ap, set, ◌≡◌, ℕ, ◌+◌, ◌<◌, ◌≤◌, ◌⊎◌, inl, inr, ℤ, pos, List, length, refl, sym, subst, ◌∙◌, arith, w64, to_z}
use Rattle.std.specs.Prelude.{◌*ℤ◌, ◌≤ℤ◌, ◌↔◌, Bool, true, false, IsTrue, MatchBool, nat_eq, int_div, int_rem}
use Rattle.std.proofs.lemmas.Bool.{cases_lt, eq-eqb, eqb-true}
use Rattle.std.proofs.lemmas.Int.{ints, to_z-of_z, quot_is, quot_fits, rem_is}
use Rattle.std.proofs.lemmas.List.{get_or-set_same, get_or-set_other}
use mir.Val.{SFits, of_z}
use Rattle.compact_types.specs.declared.places.Axis.{Axis}
use Rattle.compact_types.specs.declared.places.Axis.TheVariants.{X, Y}
use Rattle.compact_types.specs.declared.places.Point.{Point}
use Rattle.compact_types.specs.declared.places.Places.{Places}
use Rattle.compact_types.specs.Lookups.{origin, place, along}
use Rattle.compact_types.specs.Scalings.{IsMultiple, IsOnGrid, IsOffGrid, IsScaled, IsFirstOff}
use Rattle.compact_types.proofs.Multiples.{multiple_without_rest, no_rest}

-- what the code's test of the rest tells
pub rest_tells : (z by : ℤ) → SFits w64 z → SFits w64 by → pos 1 ≤ℤ by →
    IsTrue (nat_eq (of_z w64 (int_rem (to_z w64 (of_z w64 z)) (to_z w64 (of_z w64 by)))) 0) ↔ IsMultiple by z
rest_tells z by fits_z fits_by positive = (
  λ none. (int_div z by, multiple_without_rest by z (sym (rem_is w64 z by fits_z fits_by) ∙ ap (to_z w64) (eqb-true _ _ none))),
  λ multiple. eq-eqb _ _ (ap (of_z w64) (read ∙ no_rest by z positive multiple)),
)
  where
    read : int_rem (to_z w64 (of_z w64 z)) (to_z w64 (of_z w64 by)) ≡ int_rem z by
    read = λ i. int_rem (to_z-of_z w64 z fits_z i) (to_z-of_z w64 by fits_by i)

-- what the code's quotient is
pub quotient_tells : (z by : ℤ) → SFits w64 z → SFits w64 by → pos 1 ≤ℤ by → IsMultiple by z →
    z ≡ by *ℤ to_z w64 (of_z w64 (int_div (to_z w64 (of_z w64 z)) (to_z w64 (of_z w64 by))))
quotient_tells z by fits_z fits_by positive multiple =
    multiple_without_rest by z (no_rest by z positive multiple)
    ∙ ap (λ (q : ℤ). by *ℤ q) (sym (quot_is w64 z by fits_z fits_by (quot_fits w64 z by fits_z (omega (arith, ints)))))

-- a multiple that the code passed on
pub read_multiple : (z by : ℤ) → SFits w64 z → SFits w64 by → IsMultiple by z → IsMultiple (to_z w64 (of_z w64 by)) (to_z w64 (of_z w64 z))
read_multiple z by fits_z fits_by multiple =
    subst (λ (y : ℤ). IsMultiple (to_z w64 (of_z w64 by)) y) (sym (to_z-of_z w64 z fits_z))
    (subst (λ (y : ℤ). IsMultiple y z) (sym (to_z-of_z w64 by fits_by)) multiple)

-- where x is a multiple, the answer at y tells whether both coordinates are
pub both_or_off : (by : ℤ) (point : Point) (x y : Bool) → (IsTrue x ↔ IsMultiple by point.x) → (IsTrue y ↔ IsMultiple by point.y) → x ≡ true →
    MatchBool y (IsOnGrid by point) (IsOffGrid by point)
both_or_off by point x true tells_x tells_y on_x = both
  where
    both : IsOnGrid by point
    both X = tells_x.0 on_x
    both Y = tells_y.0 refl
both_or_off by point x false tells_x tells_y on_x = (Y, λ multiple. absurd (let no : false ≡ true = tells_y.1 multiple in cc))

-- the vertex so far is the first that is off the grid, or there is one more vertex on it
pub off_here : (by : ℤ) (places : Places) (points : List Point) (v : ℕ) → points ≡ places.xy → v < length points → IsOffGrid by (place points v) →
    ((k : ℕ) → k < v → IsOnGrid by (place places.xy k)) → IsFirstOff by places v
off_here by places points v same inside off before = record {
  inside = omega (arith, ap length same, inside);
  off = subst (λ (l : List Point). IsOffGrid by (place l v)) same off;
  before = before;
}

pub one_more_on_grid : (by : ℤ) (places : Places) (points : List Point) (v n : ℕ) → n ≡ v + 1 → points ≡ places.xy → IsOnGrid by (place points v) →
    ((k : ℕ) → k < v → IsOnGrid by (place places.xy k)) → (k : ℕ) → k < n → IsOnGrid by (place places.xy k)
one_more_on_grid by places points v n next same here before k below = by_place (cases_lt k v)
  where
    by_place : (k < v) ⊎ (v ≤ k) → IsOnGrid by (place places.xy k)
    by_place (inl less) = before k less
    by_place (inr more) =
        let last : k ≡ v = omega (arith, more, below, next) in
        rw last (subst (λ (l : List Point). IsOnGrid by (place l v)) same here)

-- the point, times `by`, is the other one
pub record IsTimes (by : ℤ) (point part : Point) : Type 0 where
  pub x : point.x ≡ by *ℤ part.x
  pub y : point.y ≡ by *ℤ part.y

-- the points so far, with one more
pub one_more_divided : (by : ℤ) (before now after : List Point) (part : Point) (v n : ℕ) → n ≡ v + 1 → v < length now → after ≡ set now v part →
    IsTimes by (place before v) part → ((k : ℕ) → k < v → IsTimes by (place before k) (place now k)) →
    (k : ℕ) → k < n → IsTimes by (place before k) (place after k)
one_more_divided by before now after part v n next inside is here so_far k below =
    subst (λ (l : List Point). IsTimes by (place before k) (place l k)) (sym is) (by_place (cases_lt k v))
  where
    by_place : (k < v) ⊎ (v ≤ k) → IsTimes by (place before k) (place (set now v part) k)
    by_place (inl less) =
        subst (λ (p : Point). IsTimes by (place before k) p) (sym (get_or-set_other now v k part origin (omega (arith, less)))) (so_far k less)
    by_place (inr more) =
        let last : k ≡ v = omega (arith, more, below, next) in
        rw last (subst (λ (p : Point). IsTimes by (place before v) p) (sym (get_or-set_same now v part origin inside)) here)

-- the other points
pub others_not_divided : (before now after : List Point) (part : Point) (v n : ℕ) → n ≡ v + 1 → after ≡ set now v part →
    ((k : ℕ) → v ≤ k → place now k ≡ place before k) → (k : ℕ) → n ≤ k → place after k ≡ place before k
others_not_divided before now after part v n next is others k above =
    ap (λ (l : List Point). place l k) is ∙ get_or-set_other now v k part origin (omega (arith, above, next)) ∙ others k (omega (arith, above, next))

-- points that were all divided
pub all_divided : (by : ℤ) (before after : Places) (n : ℕ) → length after.xy ≡ length before.xy → length before.xy ≤ n →
    ((k : ℕ) → k < n → IsTimes by (place before.xy k) (place after.xy k)) → IsScaled by before after
all_divided by before after n long all each = record { points = sym long; each = by_axis }
  where
    by_axis : (axis : Axis) (v : ℕ) → v < length before.xy → along axis (place before.xy v) ≡ by *ℤ along axis (place after.xy v)
    by_axis X v inside = (each v (omega (arith, inside, all))).x
    by_axis Y v inside = (each v (omega (arith, inside, all))).y
