-- Of the lists of small numbers that have a property one has the least weight.
use Rattle.std.proofs.Common.{◌≡◌, ℕ, zero, suc, ◌+◌, ◌<◌, ◌≤◌, ◌⊎◌, inl, inr, List, [], ◌∷◌, length, slice_index_or, map, refl, ap, ◌∙◌, arith}
use Rattle.std.specs.List.{range_with_len}
use Rattle.std.proofs.lemmas.Bool.{cases_lt}
use Rattle.std.proofs.lemmas.List.{get_or-map, length-map}
use Rattle.std.proofs.lemmas.List.FromFn.{length-range_with_len, get_or-range_with_len}

-- n numbers, each at most so much
pub record IsInBox (n most : ℕ) (list : List ℕ) : Type 0 where
  pub long : length list ≡ n
  pub low : (i : ℕ) → i < n → slice_index_or list i 0 ≤ most

-- a number up to the most at which a function is least
least_value : (f : ℕ → ℕ) (most : ℕ) → (h : ℕ) × (h ≤ most) × ((k : ℕ) → k ≤ most → f h ≤ f k)
least_value f zero = (0, omega arith, λ k low. (let none : k ≡ 0 = omega (arith, low) in rw none (omega arith)))
least_value f (suc most) = by_order (least_value f most)
  where
    by_order : (h : ℕ) × (h ≤ most) × ((k : ℕ) → k ≤ most → f h ≤ f k) →
        (h : ℕ) × (h ≤ suc most) × ((k : ℕ) → k ≤ suc most → f h ≤ f k)
    by_order found =
        elim (cases_lt (f (suc most)) (f found.0)) [
          | inl less ↦ (
            suc most,
            omega arith,
            λ k low. elim (cases_lt k (suc most)) [
              | inl before ↦ (let is = found.2 k (omega (arith, before)) in omega (arith, less, is))
              | inr last ↦ (let here : k ≡ suc most = omega (arith, last, low) in rw here (omega arith))
            ],
          )
          | inr not_less ↦ (
            found.0,
            omega (arith, found.1),
            λ k low. elim (cases_lt k (suc most)) [
              | inl before ↦ found.2 k (omega (arith, before))
              | inr last ↦ (let here : k ≡ suc most = omega (arith, last, low) in rw here (omega (arith, not_less)))
            ],
          )
        ]

rest_in_box : (n most x : ℕ) (xs : List ℕ) → IsInBox (suc n) most (x ∷ xs) → IsInBox n most xs
rest_in_box n most x xs inside = record {
  long = let is = inside.long in omega (arith, is);
  low = λ i below. inside.low (suc i) (omega (arith, below));
}

longer_in_box : (n most x : ℕ) (xs : List ℕ) → x ≤ most → IsInBox n most xs → IsInBox (suc n) most (x ∷ xs)
longer_in_box n most x xs low rest = record {
  long = let is = rest.long in omega (arith, is);
  low = each;
}
  where
    each : (i : ℕ) → i < suc n → slice_index_or (x ∷ xs) i 0 ≤ most
    each zero below = low
    each (suc i) below = rest.low i (omega (arith, below))

-- a list in the box with the least weight of all
abbrev IsLeastOf : ℕ → ℕ → (List ℕ → ℕ) → List ℕ → Type 0
IsLeastOf n most w list = (other : List ℕ) → IsInBox n most other → w list ≤ w other

abbrev SomeLeast : ℕ → ℕ → (List ℕ → ℕ) → Type 0
SomeLeast n most w = (list : List ℕ) × IsInBox n most list × IsLeastOf n most w list

one_longer : (n most : ℕ) (w : List ℕ → ℕ) (rest : (x : ℕ) → SomeLeast n most (λ l. w (x ∷ l))) →
    (x : ℕ) × (x ≤ most) × ((k : ℕ) → k ≤ most → w (x ∷ (rest x).0) ≤ w (k ∷ (rest k).0)) → SomeLeast (suc n) most w
one_longer n most w rest found =
    (found.0 ∷ (rest found.0).0, longer_in_box n most found.0 (rest found.0).0 found.1 (rest found.0).1, each)
  where
    each : IsLeastOf (suc n) most w (found.0 ∷ (rest found.0).0)
    each [] inside = let is = inside.long in absurd (omega (arith, is))
    each (y ∷ ys) inside =
        let first = found.2 y (inside.low 0 (omega arith)) in
        let later = (rest y).2 ys (rest_in_box n most y ys inside) in
        omega (arith, first, later)

none_longer : (most : ℕ) (w : List ℕ → ℕ) → SomeLeast zero most w
none_longer most w = ([], record { long = refl; low = λ i below. absurd (omega (arith, below)) }, only)
  where
    only : IsLeastOf zero most w []
    only [] inside = omega arith
    only (x ∷ xs) inside = let is = inside.long in absurd (omega (arith, is))

least_list : (n most : ℕ) (w : List ℕ → ℕ) → SomeLeast n most w
least_list zero most w = none_longer most w
least_list (suc n) most w =
    let rest : (x : ℕ) → SomeLeast n most (λ l. w (x ∷ l)) = λ x. least_list n most (λ l. w (x ∷ l)) in
    one_longer n most w rest (least_value (λ x. w (x ∷ (rest x).0)) most)

-- a weight that is heavy where a property fails
heavy : {P : Type 0} → P ⊎ (P → ⊥) → ℕ → ℕ → ℕ
heavy (inl holds) a b = a
heavy (inr fails) a b = b

heavy_is : {P : Type 0} (d : P ⊎ (P → ⊥)) (a b : ℕ) → P → heavy d a b ≡ a
unfolding heavy
heavy_is (inl holds) a b p = refl
heavy_is (inr fails) a b p = absurd (fails p)

light : {P : Type 0} (d : P ⊎ (P → ⊥)) (a b : ℕ) → heavy d a b < b → P × (heavy d a b ≡ a)
unfolding heavy
light (inl holds) a b less = (holds, refl)
light (inr fails) a b less = absurd (omega (arith, less))

-- of the lists in the box with a property one has the least weight
pub least_that : (n most : ℕ) (P : List ℕ → Type 0) → ((list : List ℕ) → P list ⊎ (P list → ⊥)) → (w : List ℕ → ℕ) →
    (some : List ℕ) → IsInBox n most some → P some →
    (list : List ℕ) × IsInBox n most list × P list × ((other : List ℕ) → IsInBox n most other → P other → w list ≤ w other)
least_that n most P decided w some some_in has =
    let v : List ℕ → ℕ = λ l. heavy (decided l) (w l) (suc (w some)) in
    let found = least_list n most v in
    let low = found.2 some some_in in
    let own = heavy_is (decided some) (w some) (suc (w some)) has in
    let is = light (decided found.0) (w found.0) (suc (w some)) (omega (arith, low, own)) in (
      found.0,
      found.1,
      is.0,
      λ other inside holds.
          let below = found.2 other inside in
          let other_is = heavy_is (decided other) (w other) (suc (w some)) holds in
          let here = is.1 in
          omega (arith, below, other_is, here),
    )

-- a property of all numbers below a bound is decided where it is decided of each
pub decide_all : (Q : ℕ → Type 0) → ((i : ℕ) → Q i ⊎ (Q i → ⊥)) → (n : ℕ) → ((i : ℕ) → i < n → Q i) ⊎ (((i : ℕ) → i < n → Q i) → ⊥)
decide_all Q each zero = inl (λ i below. absurd (omega (arith, below)))
decide_all Q each (suc n) = by_last (decide_all Q each n) (each n)
  where
    by_last : ((i : ℕ) → i < n → Q i) ⊎ (((i : ℕ) → i < n → Q i) → ⊥) → Q n ⊎ (Q n → ⊥) →
        ((i : ℕ) → i < suc n → Q i) ⊎ (((i : ℕ) → i < suc n → Q i) → ⊥)
    by_last (inr fails) last = inr (λ all. fails (λ i below. all i (omega (arith, below))))
    by_last (inl before) (inr fails) = inr (λ all. fails (all n (omega arith)))
    by_last (inl before) (inl here) = inl (λ i below. elim (cases_lt i n) [
      | inl less ↦ before i less
      | inr last ↦ (let same : i ≡ n = omega (arith, last, below) in rw same here)
    ])

-- some number below a bound where a function is 0, or none
pub zero_or_none : (f : ℕ → ℕ) (n : ℕ) → ((i : ℕ) × (i < n) × (f i ≡ 0)) ⊎ ((i : ℕ) → i < n → 0 < f i)
zero_or_none f zero = inr (λ i below. absurd (omega (arith, below)))
zero_or_none f (suc n) = by_last (zero_or_none f n)
  where
    by_last : ((i : ℕ) × (i < n) × (f i ≡ 0)) ⊎ ((i : ℕ) → i < n → 0 < f i) → ((i : ℕ) × (i < suc n) × (f i ≡ 0)) ⊎ ((i : ℕ) → i < suc n → 0 < f i)
    by_last (inl found) = inl (found.0, omega (arith, found.1), found.2)
    by_last (inr none) =
        elim (cases_lt 0 (f n)) [
          | inl some ↦ inr (λ i below. elim (cases_lt i n) [
            | inl less ↦ none i less
            | inr last ↦ (let same : i ≡ n = omega (arith, last, below) in rw same some)
          ])
          | inr low ↦ inl (n, omega arith, omega (arith, low))
        ]

-- the sum of the first n numbers of a list
pub heights : List ℕ → ℕ → ℕ
heights list zero = 0
heights list (suc n) = heights list n + slice_index_or list n 0

-- no greater numbers have no greater sum
heights_low : (l m : List ℕ) (n : ℕ) → ((v : ℕ) → v < n → slice_index_or m v 0 ≤ slice_index_or l v 0) → heights m n ≤ heights l n
unfolding heights
heights_low l m zero low = omega arith
heights_low l m (suc n) low =
    let before = heights_low l m n (λ v below. low v (omega (arith, below))) in
    let here = low n (omega arith) in
    omega (arith, before, here)

-- numbers that are nowhere greater and have no lesser sum are the same
pub same_heights : (l m : List ℕ) (n : ℕ) → ((v : ℕ) → v < n → slice_index_or m v 0 ≤ slice_index_or l v 0) → heights l n ≤ heights m n →
    (v : ℕ) → v < n → slice_index_or l v 0 ≤ slice_index_or m v 0
unfolding heights
same_heights l m zero low sum v inside = absurd (omega (arith, inside))
same_heights l m (suc n) low sum v inside =
    let before = heights_low l m n (λ u below. low u (omega (arith, below))) in
    let here = low n (omega arith) in
    elim (cases_lt v n) [
      | inl less ↦ same_heights l m n (λ u below. low u (omega (arith, below))) (omega (arith, sum, here)) v less
      | inr last ↦ (let same : v ≡ n = omega (arith, last, inside) in rw same (omega (arith, sum, before)))
    ]

-- the list of the first values of a function
abbrev pub listed : (ℕ → ℕ) → ℕ → List ℕ
listed f n = map f (range_with_len 0 n)

pub listed_at : (f : ℕ → ℕ) (n v : ℕ) → v < n → slice_index_or (listed f n) v 0 ≡ f v
listed_at f n v inside =
    let number : 0 + v ≡ v = omega arith in
    get_or-map f (range_with_len 0 n) v 0 0 (omega (arith, inside, length-range_with_len 0 n))
    ∙ ap f (get_or-range_with_len 0 n v 0 inside ∙ number)

pub listed_in_box : (f : ℕ → ℕ) (n most : ℕ) → ((v : ℕ) → v < n → f v ≤ most) → IsInBox n most (listed f n)
listed_in_box f n most low = record {
  long = length-map (range_with_len 0 n) f ∙ length-range_with_len 0 n;
  low = λ i inside. let is = listed_at f n i inside in let below = low i inside in omega (arith, is, below);
}
