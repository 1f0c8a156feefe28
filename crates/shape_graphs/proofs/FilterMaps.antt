-- What a list has once a function has taken some of its values away and changed the others.
use Rattle.std.proofs.Common.{◌≡◌, ℕ, zero, suc, ◌<◌, Option, Some, None, List, [], ◌∷◌, length, slice_index_or, subst, sym, ap, refl, ◌∙◌, arith}
use Rattle.std.specs.List.{filter_map, cons_option}

-- each value of the new list comes from one of the old
pub filter_map_from : {A B : Type 0} (h : A → Option B) (xs : List A) (d : A) (e : B) (k : ℕ) → k < length (filter_map h xs) →
    (j : ℕ) × (j < length xs) × (h (slice_index_or xs j d) ≡ Some (slice_index_or (filter_map h xs) k e))
filter_map_from {A} {B} h [] d e k none = absurd (omega arith)
filter_map_from {A} {B} h (x ∷ xs) d e k within = by_first (h x) refl within (λ l below. filter_map_from h xs d e l below)
  where
    by_first : (first : Option B) → h x ≡ first → k < length (cons_option (h x) (filter_map h xs)) →
        ((l : ℕ) → l < length (filter_map h xs) → (j : ℕ) × (j < length xs) × (h (slice_index_or xs j d) ≡ Some (slice_index_or (filter_map h xs) l e))) →
        (j : ℕ) × (j < length (x ∷ xs)) × (h (slice_index_or (x ∷ xs) j d) ≡ Some (slice_index_or (cons_option (h x) (filter_map h xs)) k e))
    by_first None is within rest =
        let shorter : cons_option (h x) (filter_map h xs) ≡ filter_map h xs = ap (λ (o : Option B). cons_option o (filter_map h xs)) is in
        let found = rest k (subst (λ (l : List B). k < length l) shorter within) in
        (suc found.0, omega (arith, found.1), found.2 ∙ ap (λ (l : List B). Some (slice_index_or l k e)) (sym shorter))
    by_first (Some y) is within rest =
        let longer : cons_option (h x) (filter_map h xs) ≡ y ∷ filter_map h xs = ap (λ (o : Option B). cons_option o (filter_map h xs)) is in
        let found = by_number k (subst (λ (l : List B). k < length l) longer within) rest in
        (found.0, found.1, found.2 ∙ ap (λ (l : List B). Some (slice_index_or l k e)) (sym longer))
      where
        by_number : (k : ℕ) → k < length (y ∷ filter_map h xs) →
            ((l : ℕ) → l < length (filter_map h xs) → (j : ℕ) × (j < length xs) × (h (slice_index_or xs j d) ≡ Some (slice_index_or (filter_map h xs) l e))) →
            (j : ℕ) × (j < length (x ∷ xs)) × (h (slice_index_or (x ∷ xs) j d) ≡ Some (slice_index_or (y ∷ filter_map h xs) k e))
        by_number zero within rest = (0, omega arith, is)
        by_number (suc l) within rest = let found = rest l (omega arith) in (suc found.0, omega (arith, found.1), found.2)

-- each value that is not taken away is in the new list
pub filter_map_has : {A B : Type 0} (h : A → Option B) (xs : List A) (d : A) (e : B) (j : ℕ) (y : B) → j < length xs →
    h (slice_index_or xs j d) ≡ Some y → (k : ℕ) × (k < length (filter_map h xs)) × (slice_index_or (filter_map h xs) k e ≡ y)
filter_map_has {A} {B} h [] d e j y none is = absurd (omega arith)
filter_map_has {A} {B} h (x ∷ xs) d e zero y within is =
    let longer : cons_option (h x) (filter_map h xs) ≡ y ∷ filter_map h xs = ap (λ (o : Option B). cons_option o (filter_map h xs)) is in
    subst (λ (l : List B). (k : ℕ) × (k < length l) × (slice_index_or l k e ≡ y)) (sym longer) (0, omega arith, refl)
filter_map_has {A} {B} h (x ∷ xs) d e (suc j) y within is = by_first (h x) refl (filter_map_has h xs d e j y (omega arith) is)
  where
    by_first : (first : Option B) → h x ≡ first → (k : ℕ) × (k < length (filter_map h xs)) × (slice_index_or (filter_map h xs) k e ≡ y) →
        (k : ℕ) × (k < length (cons_option (h x) (filter_map h xs))) × (slice_index_or (cons_option (h x) (filter_map h xs)) k e ≡ y)
    by_first None gone found =
        let shorter : cons_option (h x) (filter_map h xs) ≡ filter_map h xs = ap (λ (o : Option B). cons_option o (filter_map h xs)) gone in
        subst (λ (l : List B). (k : ℕ) × (k < length l) × (slice_index_or l k e ≡ y)) (sym shorter) found
    by_first (Some z) stays found =
        let longer : cons_option (h x) (filter_map h xs) ≡ z ∷ filter_map h xs = ap (λ (o : Option B). cons_option o (filter_map h xs)) stays in
        subst (λ (l : List B). (k : ℕ) × (k < length l) × (slice_index_or l k e ≡ y)) (sym longer) (suc found.0, omega (arith, found.1), found.2)
