-- Two best drawings of a shape are one.
use Rattle.std.proofs.Common.{◌≡◌, ℤ, List, [], ◌∷◌, length, ◌⊎◌, inl, inr, refl, sym, ◌∙◌, arith}
use Rattle.std.specs.Prelude.{◌<ℤ◌}
use Rattle.std.proofs.lemmas.Int.{ints, by_lt_z}
use Rattle.compact_types.specs.declared.places.Point.{Point}
use Rattle.compact_types.specs.declared.places.Places.{Places}
use Rattle.compact_types.specs.declared.places.Key.{Key}
use Rattle.compact_types.specs.declared.plan.Shape.{Shape}
use Rattle.compact_types.specs.Orders.{numbers_of, IsListBefore, IsBefore}
use Rattle.compact_types.specs.Bests.{Objective, IsBest, key_of}

-- of two numbers one is less, or they are equal
pub compare_numbers : (a b : ℤ) → (a <ℤ b) ⊎ ((a ≡ b) ⊎ (b <ℤ a))
compare_numbers a b = by_lt_z a b (λ less. inl less)
    (λ not_less. by_lt_z b a (λ more. inr (inr more)) (λ not_more. inr (inl (omega (arith, ints)))))

pub same_point : (p q : Point) → p.x ≡ q.x → p.y ≡ q.y → p ≡ q
same_point p q x y = λ i. record { x = x i; y = y i }

-- two lists of points: one has the lesser numbers at the first difference, or they are equal
abbrev pub Compared : List Point → List Point → Type 0
Compared ps qs = IsListBefore (numbers_of ps) (numbers_of qs) ⊎ ((ps ≡ qs) ⊎ IsListBefore (numbers_of qs) (numbers_of ps))

compared_at : (p q : Point) (ps qs : List Point) →
    (p.x <ℤ q.x) ⊎ ((p.x ≡ q.x) ⊎ (q.x <ℤ p.x)) → (p.y <ℤ q.y) ⊎ ((p.y ≡ q.y) ⊎ (q.y <ℤ p.y)) →
    Compared ps qs → Compared (p ∷ ps) (q ∷ qs)
compared_at p q ps qs (inl less) y rest = inl (inl less)
compared_at p q ps qs (inr (inr more)) y rest = inr (inr (inl more))
compared_at p q ps qs (inr (inl x)) (inl less) rest = inl (inr (x, inl less))
compared_at p q ps qs (inr (inl x)) (inr (inr more)) rest = inr (inr (inr (sym x, inl more)))
compared_at p q ps qs (inr (inl x)) (inr (inl y)) (inl before) = inl (inr (x, inr (y, before)))
compared_at p q ps qs (inr (inl x)) (inr (inl y)) (inr (inr after)) = inr (inr (inr (sym x, inr (sym y, after))))
compared_at p q ps qs (inr (inl x)) (inr (inl y)) (inr (inl same)) = inr (inl (λ i. same_point p q x y i ∷ same i))

pub compare_points : (ps qs : List Point) → length ps ≡ length qs → Compared ps qs
compare_points [] [] same = inr (inl refl)
compare_points [] (q ∷ qs) same = absurd (omega arith)
compare_points (p ∷ ps) [] same = absurd (omega arith)
compare_points (p ∷ ps) (q ∷ qs) same =
    compared_at p q ps qs (compare_numbers p.x q.x) (compare_numbers p.y q.y) (compare_points ps qs (omega arith))

pub same_places : (p q : Places) → p.xy ≡ q.xy → p ≡ q
same_places p q same = λ i. record { xy = same i }

-- neither key comes before the other
same_keys : (k l : Key) → length k.places.xy ≡ length l.places.xy → (IsBefore k l → ⊥) → (IsBefore l k → ⊥) → k.places ≡ l.places
same_keys k l long not_before not_after = by_worth (compare_numbers k.worth l.worth)
  where
    by_points : k.worth ≡ l.worth → Compared k.places.xy l.places.xy → k.places ≡ l.places
    by_points same (inl before) = absurd (not_before (inr (same, before)))
    by_points same (inr (inl equal)) = same_places k.places l.places equal
    by_points same (inr (inr after)) = absurd (not_after (inr (sym same, after)))

    by_worth : (k.worth <ℤ l.worth) ⊎ ((k.worth ≡ l.worth) ⊎ (l.worth <ℤ k.worth)) → k.places ≡ l.places
    by_worth (inl less) = absurd (not_before (inl less))
    by_worth (inr (inl same)) = by_points same (compare_points k.places.xy l.places.xy long)
    by_worth (inr (inr more)) = absurd (not_after (inl more))

pub one_best : (objective : Objective) (shape : Shape) (p q : Places) → IsBest objective shape p → IsBest objective shape q → p ≡ q
one_best objective shape p q best_p best_q =
    same_keys (key_of objective shape p) (key_of objective shape q)
    (best_p.drawing.crossing_free.places_fit ∙ sym best_q.drawing.crossing_free.places_fit)
    (best_q.none_before p best_p.drawing best_p.from_zero)
    (best_p.none_before q best_q.drawing best_q.from_zero)
