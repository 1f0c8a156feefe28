-- Places are on a grid, or one vertex is the first that is not.
use Rattle.std.proofs.Common.{◌≡◌, ℕ, zero, suc, ◌<◌, ◌≤◌, ◌⊎◌, inl, inr, ℤ, pos, List, [], ◌∷◌, length, map, refl, sym, ap, ◌∙◌, subst, arith}
use Rattle.std.specs.Prelude.{◌*ℤ◌, ◌≤ℤ◌, negsuc, int_div, int_rem}
use Rattle.std.proofs.lemmas.Bool.{cases_lt}
use Rattle.std.proofs.lemmas.Int.{ints}
use Rattle.std.proofs.lemmas.List.{length-map}
use Rattle.compact_types.specs.declared.places.Axis.{Axis}
use Rattle.compact_types.specs.declared.places.Axis.TheVariants.{X, Y}
use Rattle.compact_types.specs.declared.places.Point.{Point}
use Rattle.compact_types.specs.declared.places.Places.{Places}
use Rattle.compact_types.specs.Lookups.{place, along}
use Rattle.compact_types.specs.Scalings.{IsMultiple, IsOnGrid, IsOffGrid, IsScaled, IsFirstOff}
use Rattle.compact_types.proofs.Multiples.{multiple_without_rest, no_rest}

module _ (by : ℤ) (positive : pos 1 ≤ℤ by) where
  is_nothing_or_not : (z : ℤ) → (z ≡ pos 0) ⊎ (z ≡ pos 0 → ⊥)
  is_nothing_or_not (pos zero) = inl refl
  is_nothing_or_not (pos (suc n)) = inr (λ is. absurd (omega (arith, ints, is)))
  is_nothing_or_not (negsuc n) = inr (λ is. absurd (omega (arith, ints, is)))

  multiple_or_not : (z : ℤ) → (IsMultiple by z ⊎ (IsMultiple by z → ⊥))
  multiple_or_not z = by_rest (is_nothing_or_not (int_rem z by))
    where
      by_rest : (int_rem z by ≡ pos 0) ⊎ (int_rem z by ≡ pos 0 → ⊥) → (IsMultiple by z ⊎ (IsMultiple by z → ⊥))
      by_rest (inl none) = inl (int_div z by, multiple_without_rest by z none)
      by_rest (inr some) = inr (λ multiple. some (no_rest by z positive multiple))

  on_grid_or_off : (point : Point) → IsOnGrid by point ⊎ IsOffGrid by point
  on_grid_or_off point = by_axes (multiple_or_not point.x) (multiple_or_not point.y)
    where
      on_both : IsMultiple by point.x → IsMultiple by point.y → IsOnGrid by point
      on_both x y X = x
      on_both x y Y = y

      by_axes : (IsMultiple by point.x ⊎ (IsMultiple by point.x → ⊥)) → (IsMultiple by point.y ⊎ (IsMultiple by point.y → ⊥)) → IsOnGrid by point ⊎ IsOffGrid by point
      by_axes (inl x) (inl y) = inl (on_both x y)
      by_axes (inl x) (inr off) = inr (Y, off)
      by_axes (inr off) y = inr (X, off)

  module _ (places : Places) where
    -- the first vertex below n that is off the grid, or none is
    first_off_below : (n : ℕ) → n ≤ length places.xy →
        ((v : ℕ) → v < n → IsOnGrid by (place places.xy v)) ⊎ ((v : ℕ) × IsFirstOff by places v)
    first_off_below zero most = inl (λ v none. absurd (omega (arith, none)))
    first_off_below (suc n) most = by_before (first_off_below n (omega (arith, most)))
      where
        one_more : ((v : ℕ) → v < n → IsOnGrid by (place places.xy v)) → IsOnGrid by (place places.xy n) →
            (v : ℕ) → (v < n) ⊎ (n ≤ v) → v < suc n → IsOnGrid by (place places.xy v)
        one_more before here v (inl less) below = before v less
        one_more before here v (inr more) below =
            let last : n ≡ v = omega (arith, more, below) in
            subst (λ (k : ℕ). IsOnGrid by (place places.xy k)) last here

        by_here : ((v : ℕ) → v < n → IsOnGrid by (place places.xy v)) → IsOnGrid by (place places.xy n) ⊎ IsOffGrid by (place places.xy n) →
            ((v : ℕ) → v < suc n → IsOnGrid by (place places.xy v)) ⊎ ((v : ℕ) × IsFirstOff by places v)
        by_here before (inl here) = inl (λ v below. one_more before here v (cases_lt v n) below)
        by_here before (inr off) = inr (n, record { inside = omega (arith, most); off = off; before = before })

        by_before : ((v : ℕ) → v < n → IsOnGrid by (place places.xy v)) ⊎ ((v : ℕ) × IsFirstOff by places v) →
            ((v : ℕ) → v < suc n → IsOnGrid by (place places.xy v)) ⊎ ((v : ℕ) × IsFirstOff by places v)
        by_before (inl before) = by_here before (on_grid_or_off (place places.xy n))
        by_before (inr first) = inr first

  -- a point divided, and many
  divided : Point → Point
  divided point = record { x = int_div point.x by; y = int_div point.y by }

  divided_at : (points : List Point) (v : ℕ) → v < length points → place (map divided points) v ≡ divided (place points v)
  divided_at [] v none = absurd (omega (arith, none))
  divided_at (point ∷ points) zero inside = refl
  divided_at (point ∷ points) (suc v) inside = divided_at points v (omega (arith, inside))

  divided_along : (axis : Axis) (point : Point) → IsOnGrid by point → along axis point ≡ by *ℤ along axis (divided point)
  unfolding divided
  divided_along X point on = multiple_without_rest by point.x (no_rest by point.x positive (on X))
  divided_along Y point on = multiple_without_rest by point.y (no_rest by point.y positive (on Y))

  scaled_on_grid : (places : Places) → ((v : ℕ) → v < length places.xy → IsOnGrid by (place places.xy v)) →
      IsScaled by places (record { xy = map divided places.xy })
  scaled_on_grid places on = record {
    points = sym (length-map places.xy divided);
    each = λ axis v inside.
        divided_along axis (place places.xy v) (on v inside)
        ∙ ap (λ (p : Point). by *ℤ along axis p) (sym (divided_at places.xy v inside));
  }

  -- the places can be scaled down, or a vertex is the first off the grid
  pub some_scaled_or_off : (places : Places) → ((scaled : Places) × IsScaled by places scaled) ⊎ ((v : ℕ) × IsFirstOff by places v)
  some_scaled_or_off places = by_first (first_off_below places (length places.xy) (omega arith))
    where
      by_first : ((v : ℕ) → v < length places.xy → IsOnGrid by (place places.xy v)) ⊎ ((v : ℕ) × IsFirstOff by places v) →
          ((scaled : Places) × IsScaled by places scaled) ⊎ ((v : ℕ) × IsFirstOff by places v)
      by_first (inl on) = inl (record { xy = map divided places.xy }, scaled_on_grid places on)
      by_first (inr first) = inr first
