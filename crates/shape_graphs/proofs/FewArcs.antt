-- A graph of a shape has at most as many arcs of pieces as there are vertices: each has a low end of its own.
use Rattle.std.proofs.Common.{◌≡◌, ℕ, zero, suc, ◌+◌, ◌<◌, ◌≤◌, ◌==◌, ◌&&◌, Bool, true, false, Option, Some, None, List, [], ◌∷◌, length, ltb, ◌⊎◌, inl, inr, sym, ap, refl, ◌∙◌, arith}
use Rattle.std.specs.Prelude.{if◌then◌else◌}
use Rattle.std.specs.List.{filter_map, cons_option, range_with_len}
use Rattle.std.proofs.lemmas.Bool.{cases_Bool, cases_eq, eq-eqb, eqb-true, ltb-true, lt-ltb, both_ways, and_parts, and_from, cond-true, cond-false}
use Rattle.compact_types.specs.declared.places.Axis.{Axis}
use Rattle.compact_types.specs.declared.plan.Shape.{Shape}
use Rattle.bars.specs.Lines.{count_to, is_along}
use Rattle.bars.specs.Solutions.{HasDrawing}
use Rattle.bars.proofs.Laws.{GoesAlong, low_of, low_is_vertex, is_axis_same, one_from}
use Rattle.shape_graphs.specs.declared.graph.Arc.{Arc}
use Rattle.shape_graphs.specs.Graphs.{piece_arc, piece_arcs}

-- one more number counts, or not
abbrev Counted : (ℕ → Bool) → ℕ → Type 0
Counted test n =
    ((test n ≡ true) × (count_to test (suc n) ≡ suc (count_to test n))) ⊎ ((test n ≡ false) × (count_to test (suc n) ≡ count_to test n))

counted : (test : ℕ → Bool) (n : ℕ) → Counted test n
counted test n = by_test (cases_Bool (test n))
  where
    by_test : (test n ≡ true) ⊎ (test n ≡ false) → Counted test n
    by_test (inl passes) = inl (passes, cond-true (test n) (suc (count_to test n)) (count_to test n) passes)
    by_test (inr fails) = inr (fails, cond-false (test n) (suc (count_to test n)) (count_to test n) fails)

-- where no number passes, none counts
none_counts : (test : ℕ → Bool) (n : ℕ) → ((i : ℕ) → i < n → test i ≡ true → ⊥) → count_to test n ≡ 0
none_counts test zero none = refl
none_counts test (suc n) none = by_step (counted test n) (none_counts test n (λ i less. none i (omega (arith, less))))
  where
    by_step : Counted test n → count_to test n ≡ 0 → count_to test (suc n) ≡ 0
    by_step (inl is) before = absurd (none n (omega arith) is.0)
    by_step (inr is) before = is.1 ∙ before

-- where at most one passes, at most one counts
one_counts : (test : ℕ → Bool) (n : ℕ) → ((i j : ℕ) → i < n → j < n → test i ≡ true → test j ≡ true → i ≡ j) → count_to test n ≤ 1
one_counts test zero one = omega arith
one_counts test (suc n) one = by_step (counted test n) (one_counts test n (λ i j hi hj. one i j (omega (arith, hi)) (omega (arith, hj))))
  where
    by_step : Counted test n → count_to test n ≤ 1 → count_to test (suc n) ≤ 1
    by_step (inl is) before =
        let none : count_to test n ≡ 0 = none_counts test n (λ i less passes. (let same : i ≡ n = one i n (omega (arith, less)) (omega arith) passes is.0 in omega (arith, same, less))) in
        omega (arith, is.1, none)
    by_step (inr is) before = omega (arith, is.1, before)

-- what passes a test passes one of two
two_count : (test first second : ℕ → Bool) (n : ℕ) → ((i : ℕ) → test i ≡ true → (first i ≡ true) ⊎ (second i ≡ true)) →
    count_to test n ≤ count_to first n + count_to second n
two_count test first second zero either = omega arith
two_count test first second (suc n) either = by_step (counted test n) (counted first n) (counted second n) (two_count test first second n either)
  where
    by_either : (first n ≡ true) ⊎ (second n ≡ true) → first n ≡ false → second n ≡ false → ⊥
    by_either (inl is) fails none = both_ways (first n) fails is
    by_either (inr is) fails none = both_ways (second n) none is

    by_step : Counted test n → Counted first n → Counted second n → count_to test n ≤ count_to first n + count_to second n →
        count_to test (suc n) ≤ count_to first (suc n) + count_to second (suc n)
    by_step (inl a) (inl b) (inl c) before = omega (arith, a.1, b.1, c.1, before)
    by_step (inl a) (inl b) (inr c) before = omega (arith, a.1, b.1, c.1, before)
    by_step (inl a) (inr b) (inl c) before = omega (arith, a.1, b.1, c.1, before)
    by_step (inl a) (inr b) (inr c) before = absurd (by_either (either n a.0) b.0 c.0)
    by_step (inr a) (inl b) (inl c) before = omega (arith, a.1, b.1, c.1, before)
    by_step (inr a) (inl b) (inr c) before = omega (arith, a.1, b.1, c.1, before)
    by_step (inr a) (inr b) (inl c) before = omega (arith, a.1, b.1, c.1, before)
    by_step (inr a) (inr b) (inr c) before = omega (arith, a.1, b.1, c.1, before)

-- numbers with different values below a bound are at most so many
few_values : (test : ℕ → Bool) (value : ℕ → ℕ) (n m : ℕ) →
    ((i j : ℕ) → i < n → j < n → test i ≡ true → test j ≡ true → value i ≡ value j → i ≡ j) →
    count_to (λ i. test i && ltb (value i) m) n ≤ m
few_values test value n zero apart =
    let none : count_to (λ i. test i && ltb (value i) 0) n ≡ 0 =
    none_counts (λ i. test i && ltb (value i) 0) n (λ i less passes. (
    let below : value i < 0 = ltb-true (value i) 0 (and_parts (test i) (ltb (value i) 0) passes).1 in omega (arith, below))) in
    omega (arith, none)
few_values test value n (suc m) apart =
    let split : count_to (λ i. test i && ltb (value i) (suc m)) n ≤ count_to (λ i. test i && ltb (value i) m) n + count_to (λ i. test i && (value i == m)) n =
    two_count (λ i. test i && ltb (value i) (suc m)) (λ i. test i && ltb (value i) m) (λ i. test i && (value i == m)) n either in
    let one : count_to (λ i. test i && (value i == m)) n ≤ 1 =
    one_counts (λ i. test i && (value i == m)) n (λ i j hi hj a b. apart i j hi hj
    (and_parts (test i) (value i == m) a).0 (and_parts (test j) (value j == m) b).0
    (eqb-true (value i) m (and_parts (test i) (value i == m) a).1 ∙ sym (eqb-true (value j) m (and_parts (test j) (value j == m) b).1))) in
    omega (arith, split, one, few_values test value n m apart)
  where
    either : (i : ℕ) → (test i && ltb (value i) (suc m)) ≡ true → ((test i && ltb (value i) m) ≡ true) ⊎ ((test i && (value i == m)) ≡ true)
    either i passes = by_value (cases_eq (value i) m)
      where
        parts : (test i ≡ true) × (ltb (value i) (suc m) ≡ true)
        parts = and_parts (test i) (ltb (value i) (suc m)) passes

        by_value : (value i ≡ m) ⊎ (value i ≡ m → ⊥) → ((test i && ltb (value i) m) ≡ true) ⊎ ((test i && (value i == m)) ≡ true)
        by_value (inl same) = inr (and_from (test i) (value i == m) parts.0 (eq-eqb (value i) m same))
        by_value (inr other) =
            let below : value i < suc m = ltb-true (value i) (suc m) parts.1 in
            inl (and_from (test i) (ltb (value i) m) parts.0 (lt-ltb (value i) m (omega (arith, below, other))))

-- a count of what passes, where all values are below the bound
all_below : (test : ℕ → Bool) (value : ℕ → ℕ) (n m : ℕ) → ((i : ℕ) → i < n → test i ≡ true → value i < m) →
    count_to test n ≤ count_to (λ i. test i && ltb (value i) m) n
all_below test value zero m below = omega arith
all_below test value (suc n) m below =
    by_step (counted test n) (counted (λ i. test i && ltb (value i) m) n) (all_below test value n m (λ i less. below i (omega (arith, less))))
  where
    by_step : Counted test n → Counted (λ i. test i && ltb (value i) m) n → count_to test n ≤ count_to (λ i. test i && ltb (value i) m) n →
        count_to test (suc n) ≤ count_to (λ i. test i && ltb (value i) m) (suc n)
    by_step (inl a) (inl b) before = omega (arith, a.1, b.1, before)
    by_step (inl a) (inr b) before =
        absurd (both_ways (test n && ltb (value n) m) b.0 (and_from (test n) (ltb (value n) m) a.0 (lt-ltb (value n) m (below n (omega arith) a.0))))
    by_step (inr a) (inl b) before = omega (arith, a.1, b.1, before)
    by_step (inr a) (inr b) before = omega (arith, a.1, b.1, before)

-- how long a list is of what a range keeps
kept_count : (test : ℕ → Bool) (made : ℕ → Arc) (a n : ℕ) →
    length (filter_map (λ i. if test i then Some (made i) else None) (range_with_len a n)) + count_to test a ≡ count_to test (a + n)
kept_count test made a zero =
    let same : a + 0 ≡ a = omega arith in let counts : count_to test (a + 0) ≡ count_to test a = ap (count_to test) same in omega (arith, counts)
kept_count test made a (suc n) = by_steps (cases_Bool (test a)) (counted test a) (kept_count test made (a + 1) n)
  where
    long : (o : Option Arc) → (if test a then Some (made a) else None) ≡ o → length (filter_map (λ i. if test i then Some (made i) else None) (range_with_len a (suc n))) ≡ length (cons_option o (filter_map (λ i. if test i then Some (made i) else None) (range_with_len (a + 1) n)))
    long o is = ap (λ (x : Option Arc). length (cons_option x (filter_map (λ i. if test i then Some (made i) else None) (range_with_len (a + 1) n)))) is

    next : count_to test (a + 1) ≡ count_to test (suc a)
    next = let same : a + 1 ≡ suc a = omega arith in ap (count_to test) same

    end : count_to test (a + 1 + n) ≡ count_to test (a + suc n)
    end = let same : a + 1 + n ≡ a + suc n = omega arith in ap (count_to test) same

    by_steps : (test a ≡ true) ⊎ (test a ≡ false) → Counted test a →
        length (filter_map (λ i. if test i then Some (made i) else None) (range_with_len (a + 1) n)) + count_to test (a + 1) ≡ count_to test (a + 1 + n) →
        length (filter_map (λ i. if test i then Some (made i) else None) (range_with_len a (suc n))) + count_to test a ≡ count_to test (a + suc n)
    by_steps (inl passes) (inl c) before =
        let l = long (Some (made a)) (cond-true (test a) (Some (made a)) None passes) in omega (arith, l, c.1, next, end, before)
    by_steps (inr fails) (inr c) before =
        let l = long None (cond-false (test a) (Some (made a)) None fails) in omega (arith, l, c.1, next, end, before)
    by_steps (inl passes) (inr c) before = absurd (both_ways (test a) c.0 passes)
    by_steps (inr fails) (inl c) before = absurd (both_ways (test a) fails c.0)

pub few_piece_arcs : (axis : Axis) (shape : Shape) → HasDrawing shape → length (piece_arcs axis shape) ≤ shape.plan.vertices
few_piece_arcs axis shape drawing =
    let kept = kept_count (is_along axis shape) (piece_arc axis shape) 0 (length shape.plan.pieces) in
    let all : count_to (is_along axis shape) (0 + length shape.plan.pieces) ≡ count_to (is_along axis shape) (length shape.plan.pieces) =
    let same : 0 + length shape.plan.pieces ≡ length shape.plan.pieces = omega arith in ap (count_to (is_along axis shape)) same in
    let below = all_below (is_along axis shape) (low_of shape) (length shape.plan.pieces) shape.plan.vertices (λ i less passes. low_is_vertex shape i less) in
    let few = few_values (is_along axis shape) (low_of shape) (length shape.plan.pieces) shape.plan.vertices
    (λ i j hi hj a b same. one_from axis shape drawing i j (goes i hi a) (goes j hj b) same) in
    omega (arith, kept, all, below, few)
  where
    goes : (i : ℕ) → i < length shape.plan.pieces → is_along axis shape i ≡ true → GoesAlong axis shape i
    goes i less passes = record { inside = less; along = is_axis_same _ _ passes }

-- what is kept is at most what there is
pub kept_length : {A B : Type 0} (h : A → Option B) (xs : List A) → length (filter_map h xs) ≤ length xs
kept_length {A} {B} h [] = omega arith
kept_length {A} {B} h (x ∷ xs) = by_first (h x) (kept_length h xs)
  where
    by_first : (o : Option B) → length (filter_map h xs) ≤ length xs → length (cons_option o (filter_map h xs)) ≤ length (x ∷ xs)
    by_first None before = omega (arith, before)
    by_first (Some y) before = omega (arith, before)
