-- Choices on different pairs are at most as many as there are pairs.
use Rattle.std.proofs.Common.{◌≡◌, ℕ, zero, suc, ◌+◌, ◌-◌, ◌*◌, ◌<◌, ◌≤◌, List, length, ◌⊎◌, inl, inr, refl, ap, sym, ◌∙◌, arith}
use Rattle.std.proofs.lemmas.Bool.{cases_eq, cases_order}
use Rattle.std.proofs.lemmas.Nat.{mul-le}
use Rattle.compact_types.specs.declared.limits.TheConstants.{MOST_PAIRS}
use Rattle.compact_types.specs.declared.plan.Shape.{Shape}
use Rattle.compact_types.specs.declared.search.Choice.{Choice}
use Rattle.bars.specs.Segments.{segment_count}
use Rattle.bars.specs.Solutions.{IsSound, choice_at}
use Rattle.bars.proofs.Laws.{few_segments}
use Rattle.board.specs.Facts.{AreSound}

-- the numbers of m places are different
abbrev AreDifferent : (ℕ → ℕ) → ℕ → Type 0
AreDifferent number m = (i j : ℕ) → i < m → j < m → number i ≡ number j → i ≡ j

-- each number is below n
abbrev AreBelow : (ℕ → ℕ) → ℕ → ℕ → Type 0
AreBelow number m n = (i : ℕ) → i < m → number i < n

-- the greatest number that may stand is left out: the place that has it takes the last place's number
abbrev NewNumber : (ℕ → ℕ) → ℕ → ℕ → ℕ → ℕ → Type 0
NewNumber number m n i k = ((number i ≡ n) × (k ≡ number m)) ⊎ ((number i ≡ n → ⊥) × (k ≡ number i))

new_number : (number : ℕ → ℕ) (m n i : ℕ) → (k : ℕ) × NewNumber number m n i k
new_number number m n i = by_case (cases_eq (number i) n)
  where
    by_case : (number i ≡ n) ⊎ (number i ≡ n → ⊥) → (k : ℕ) × NewNumber number m n i k
    by_case (inl is) = (number m, inl (is, refl))
    by_case (inr is_not) = (number i, inr (is_not, refl))

module _ (number : ℕ → ℕ) (m n : ℕ) (different : AreDifferent number (suc m)) (below : AreBelow number (suc m) (suc n)) where
  new_different : (i j k l : ℕ) → i < m → j < m → NewNumber number m n i k → NewNumber number m n j l → k ≡ l → i ≡ j
  new_different i j k l in_i in_j (inl a) (inl b) same = different i j (omega (arith, in_i)) (omega (arith, in_j)) (a.0 ∙ sym b.0)
  new_different i j k l in_i in_j (inl a) (inr b) same =
      let last : m ≡ j = different m j (omega arith) (omega (arith, in_j)) (sym a.1 ∙ same ∙ b.1) in absurd (omega (arith, last, in_j))
  new_different i j k l in_i in_j (inr a) (inl b) same =
      let last : i ≡ m = different i m (omega (arith, in_i)) (omega arith) (sym a.1 ∙ same ∙ b.1) in absurd (omega (arith, last, in_i))
  new_different i j k l in_i in_j (inr a) (inr b) same = different i j (omega (arith, in_i)) (omega (arith, in_j)) (sym a.1 ∙ same ∙ b.1)

  new_below : (i k : ℕ) → i < m → NewNumber number m n i k → k < n
  new_below i k in_i (inl a) = by_case (cases_eq (number m) n)
    where
      by_case : (number m ≡ n) ⊎ (number m ≡ n → ⊥) → k < n
      by_case (inl is) =
          let last : i ≡ m = different i m (omega (arith, in_i)) (omega arith) (a.0 ∙ sym is) in absurd (omega (arith, last, in_i))
      by_case (inr is_not) = let bound = below m (omega arith) in let is = a.1 in omega (arith, bound, is, is_not)
  new_below i k in_i (inr a) = let bound = below i (omega (arith, in_i)) in let is = a.1 in let is_not = a.0 in omega (arith, bound, is, is_not)

-- different numbers below n are at most n
different_few : (n m : ℕ) (number : ℕ → ℕ) → AreDifferent number m → AreBelow number m n → m ≤ n
different_few n zero number different below = omega arith
different_few zero (suc m) number different below = let none = below 0 (omega arith) in absurd (omega (arith, none))
different_few (suc n) (suc m) number different below =
    let rest : m ≤ n = different_few n m (λ i. (new_number number m n i).0)
    (λ i j in_i in_j same. new_different number m n different below i j _ _ in_i in_j (new_number number m n i).1 (new_number number m n j).1 same)
    (λ i in_i. new_below number m n different below i _ in_i (new_number number m n i).1) in
    omega (arith, rest)

-- how many pairs s < t there are with t below n
pairs : ℕ → ℕ
pairs zero = 0
pairs (suc n) = pairs n + n

-- pairs with a lesser t are numbered first
pairs_rise : (t n : ℕ) → t < n → pairs t + t ≤ pairs n
unfolding pairs
pairs_rise t zero less = absurd (omega (arith, less))
pairs_rise t (suc n) less = by_case (cases_eq t n) (pairs_rise t n)
  where
    by_case : (t ≡ n) ⊎ (t ≡ n → ⊥) → (t < n → pairs t + t ≤ pairs n) → pairs t + t ≤ pairs (suc n)
    by_case (inl same) before = let equal : pairs t ≡ pairs n = ap pairs same in omega (arith, same, equal)
    by_case (inr other) before = let rise = before (omega (arith, less, other)) in omega (arith, rise)

-- a pair and its number
pair_number : (s t u v : ℕ) → s < t → u < v → pairs t + s ≡ pairs v + u → (s ≡ u) × (t ≡ v)
pair_number s t u v first second same = by_order (cases_order t v)
  where
    by_order : (t ≡ v) ⊎ ((t < v) ⊎ (v < t)) → (s ≡ u) × (t ≡ v)
    by_order (inl is) = (let equal : pairs t ≡ pairs v = ap pairs is in omega (arith, equal, same), is)
    by_order (inr (inl less)) = let rise = pairs_rise t v less in absurd (omega (arith, rise, same, first))
    by_order (inr (inr more)) = let rise = pairs_rise v t more in absurd (omega (arith, rise, same, second))

-- twice the pairs
twice_pairs : (n : ℕ) → 2 * pairs n ≡ n * (n - 1)
unfolding pairs
twice_pairs zero = omega arith
twice_pairs (suc zero) = omega arith
twice_pairs (suc (suc n)) =
    let less : suc (suc n) - 1 ≡ suc n = omega arith in
    let least : suc n - 1 ≡ n = omega arith in
    let before : 2 * pairs (suc n) ≡ suc n * n = twice_pairs (suc n) ∙ ap (λ (k : ℕ). suc n * k) least in
    rw less (omega (arith, before))

module _ (shape : Shape) (choices : List Choice) (sound : AreSound shape choices) where
  number : ℕ → ℕ
  number i = pairs (choice_at choices i).t + (choice_at choices i).s

  numbers_different : AreDifferent number (length choices)
  unfolding number
  numbers_different i j in_i in_j same =
      let both = pair_number _ _ _ _ (sound.fit.each i in_i).pair.in_order (sound.fit.each j in_j).pair.in_order same in
      sound.different i j in_i in_j both.0 both.1

  numbers_below : AreBelow number (length choices) (pairs (segment_count shape))
  unfolding number
  numbers_below i in_i =
      let in_order = (sound.fit.each i in_i).pair.in_order in
      let rise = pairs_rise (choice_at choices i).t (segment_count shape) (sound.fit.each i in_i).pair.in_shape in
      omega (arith, in_order, rise)

pub few_choices : (shape : Shape) (choices : List Choice) → AreSound shape choices →
    2 * length choices ≤ segment_count shape * (segment_count shape - 1)
few_choices shape choices sound =
    let few = different_few (pairs (segment_count shape)) (length choices) (number shape choices sound)
    (numbers_different shape choices sound) (numbers_below shape choices sound) in
    let twice = twice_pairs (segment_count shape) in
    omega (arith, few, twice)

pub few_choices_of : (shape : Shape) (choices : List Choice) → IsSound shape → AreSound shape choices →
    length choices ≤ MOST_PAIRS
few_choices_of shape choices whole sound =
    let few = few_choices shape choices sound in
    let segments = few_segments shape whole.drawable in
    let vertices = whole.few_vertices in
    let product = mul-le (segment_count shape) (segment_count shape - 1) 1000 999
    (omega (arith, segments, vertices)) (omega (arith, segments, vertices)) in
    omega (arith, few, product)
