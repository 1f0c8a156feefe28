-- Sums over the arcs of a list.
use Rattle.std.proofs.Common.{◌≡◌, ℕ, zero, suc, ◌+◌, ℤ, pos, Option, Some, None, List, [], ◌∷◌, ◌++◌, length, refl, ap, ◌∙◌, arith, length-append}
use Rattle.std.specs.Prelude.{◌+ℤ◌}
use Rattle.std.specs.List.{filter_map, cons_option, range_with_len}
use Rattle.std.proofs.lemmas.Int.{ints}
use Rattle.std.proofs.lemmas.List.{get_or_append_left, get_or-append-add}
use Rattle.compact_types.specs.Sums.{sum_to}
use Rattle.compact_types.proofs.Laws.{sum_to-split, sum_to-same}
use Rattle.shape_graphs.specs.declared.graph.Arc.{Arc}
use Rattle.shape_graphs.specs.Arcs.{arc_at, no_arc}

-- the sum over the arcs
abbrev pub total : (Arc → ℤ) → List Arc → ℤ
total f arcs = sum_to (λ i. f (arc_at arcs i)) (length arcs)

-- what an arc gives, where there is one
abbrev pub share : (Arc → ℤ) → Option Arc → ℤ
share f None = pos 0
share f (Some arc) = f arc

-- the sum over two lists
pub total-append : (f : Arc → ℤ) (xs ys : List Arc) → total f (xs ++ ys) ≡ total f xs +ℤ total f ys
total-append f xs ys =
    ap (sum_to (λ i. f (arc_at (xs ++ ys) i))) (length-append xs ys)
    ∙ sum_to-split (λ i. f (arc_at (xs ++ ys) i)) (length xs) (length ys)
    ∙ both
    (sum_to-same _ _ (length xs) (λ i inside. ap f (get_or_append_left xs ys no_arc i inside)))
    (sum_to-same _ _ (length ys) (λ i inside. ap f (get_or-append-add xs ys i no_arc)))
  where
    both : {a b c d : ℤ} → a ≡ b → c ≡ d → a +ℤ c ≡ b +ℤ d
    both e f = omega (arith, ints, e, f)

-- the sum with a first arc, where there is one
pub total-option : (f : Arc → ℤ) (first : Option Arc) (rest : List Arc) →
    total f (cons_option first rest) ≡ share f first +ℤ total f rest
total-option f None rest = omega (arith, ints)
total-option f (Some arc) rest =
    let both = total-append f (arc ∷ []) rest in
    let one : total f (arc ∷ []) ≡ f arc = omega (arith, ints) in
    omega (arith, ints, both, one)

-- a sum by its first term
front : (g : ℕ → ℤ) (n : ℕ) → sum_to g (suc n) ≡ g 0 +ℤ sum_to (λ i. g (suc i)) n
front g zero = omega (arith, ints)
front g (suc n) = omega (arith, ints, front g n)

-- the sum over what a range gives
pub total-range : (f : Arc → ℤ) (h : ℕ → Option Arc) (a n : ℕ) →
    total f (filter_map h (range_with_len a n)) ≡ sum_to (λ i. share f (h (a + i))) n
total-range f h a zero = refl
total-range f h a (suc n) =
    let step = total-option f (h a) (filter_map h (range_with_len (a + 1) n)) in
    let rest = total-range f h (a + 1) n in
    let first : share f (h (a + 0)) ≡ share f (h a) = let e : a + 0 ≡ a = omega arith in ap (λ (k : ℕ). share f (h k)) e in
    let later : sum_to (λ i. share f (h (a + 1 + i))) n ≡ sum_to (λ i. share f (h (a + suc i))) n =
    sum_to-same _ _ n (λ i inside. (let e : a + 1 + i ≡ a + suc i = omega arith in ap (λ (k : ℕ). share f (h k)) e)) in
    let whole = front (λ i. share f (h (a + i))) n in
    omega (arith, ints, step, rest, first, later, whole)

-- the sum over a list that gives nothing
pub total-nothing : {A : Type 0} (f : Arc → ℤ) (h : A → Option Arc) (xs : List A) → ((x : A) → share f (h x) ≡ pos 0) →
    total f (filter_map h xs) ≡ pos 0
total-nothing {A} f h [] none = refl
total-nothing {A} f h (x ∷ xs) none =
    let step = total-option f (h x) (filter_map h xs) in
    let here = none x in
    let rest = total-nothing f h xs none in
    omega (arith, ints, step, here, rest)
