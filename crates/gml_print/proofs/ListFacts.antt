-- Positions, filters and ranges.
use Rattle.std.proofs.Common.{◌≡◌, ℕ, zero, suc, ◌+◌, ◌⊎◌, inl, inr, arith, Bool, true, false, not, cond, List, [], ◌∷◌, ◌++◌, length, Option, None, Some, refl, sym, ap, ◌∙◌, nat_lt, add-zero, zero-add}
use Rattle.std.specs.List.{position, find, prefix_len, range_with_len}
use Rattle.std.specs.Option.{option_or}
use Rattle.std.proofs.lemmas.Bool.Decides.{nat_tests}
use Rattle.std.proofs.lemmas.Option.{same_Some}
use Rattle.std.specs.Prelude.{slice_get}

none_apart : (b : Bool) (k n : ℕ) → cond (nat_lt (cond (not b) (1 + k) 0) (suc n)) (Some (cond (not b) (1 + k) 0)) None ≡ None →
    (b ≡ false) × (cond (nat_lt k n) (Some k) None ≡ None)
none_apart true k n is = grind (arith, nat_tests)
none_apart false k n is = (refl, grind (arith, nat_tests))

pub position_none_tail : {X : Type 0} (p : X → Bool) (x : X) (xs : List X) → position p (x ∷ xs) ≡ None → (p x ≡ false) × (position p xs ≡ None)
position_none_tail p x xs is = none_apart (p x) (prefix_len (λ y. not (p y)) xs) (length xs) is

none_together : (b : Bool) (k n : ℕ) → b ≡ false → cond (nat_lt k n) (Some k) None ≡ None →
    cond (nat_lt (cond (not b) (1 + k) 0) (suc n)) (Some (cond (not b) (1 + k) 0)) None ≡ None
none_together true k n fails is = grind (arith, nat_tests)
none_together false k n fails is = grind (arith, nat_tests)

pub position_none_cons : {X : Type 0} (p : X → Bool) (x : X) (xs : List X) → p x ≡ false → position p xs ≡ None → position p (x ∷ xs) ≡ None
position_none_cons p x xs fails is = none_together (p x) (prefix_len (λ y. not (p y)) xs) (length xs) fails is

-- of two that might be there, neither is
pub neither : {X : Type 0} (a b : Option X) → option_or a b ≡ None → (a ≡ None) × (b ≡ None)
neither None b is = (refl, is)
neither (Some x) b is = (is, cc)

pub both_none : {X : Type 0} (a b : Option X) → a ≡ None → b ≡ None → option_or a b ≡ None
both_none a b first second = rw (first, second) refl

pub length_range : (a n : ℕ) → length (range_with_len a n) ≡ n
length_range a zero = refl
length_range a (suc n) = ap suc (length_range (a + 1) n)

pub range_append : (a m n : ℕ) → range_with_len a (m + n) ≡ range_with_len a m ++ range_with_len (a + m) n
range_append a zero n = rw (zero-add n, add-zero a) refl
range_append a (suc m) n =
    let e : suc m + n ≡ suc (m + n) = omega arith in
    let f : (a + 1) + m ≡ a + suc m = omega arith in
    rw (e, range_append (a + 1) m n, f) refl

found_cons : (b : Bool) (k n a : ℕ) → b ≡ false → cond (nat_lt k n) (Some k) None ≡ Some a →
    cond (nat_lt (cond (not b) (1 + k) 0) (suc n)) (Some (cond (not b) (1 + k) 0)) None ≡ Some (suc k)
found_cons true k n a fails is = cc
found_cons false k n a fails is = grind (arith, nat_tests)

found_here : (b : Bool) (k n : ℕ) → b ≡ true → cond (nat_lt (cond (not b) (1 + k) 0) (suc n)) (Some (cond (not b) (1 + k) 0)) None ≡ Some 0
found_here true k n passes = grind (arith, nat_tests)
found_here false k n passes = cc

-- the first that passes is found exactly where it has a place
pub find_position : {X : Type 0} (p : X → Bool) (xs : List X) →
    ((position p xs ≡ None) × (find p xs ≡ None)) ⊎ ((a : ℕ) × (x : X) × ((position p xs ≡ Some a) × (find p xs ≡ Some x)))
find_position p [] = inl (refl, refl)
find_position {X} p (x ∷ xs) = by_test (p x) refl (find_position p xs)
  where
    by_test : (b : Bool) → p x ≡ b →
        ((position p xs ≡ None) × (find p xs ≡ None)) ⊎ ((a : ℕ) × (y : X) × ((position p xs ≡ Some a) × (find p xs ≡ Some y))) →
        ((position p (x ∷ xs) ≡ None) × (find p (x ∷ xs) ≡ None)) ⊎ ((a : ℕ) × (y : X) × ((position p (x ∷ xs) ≡ Some a) × (find p (x ∷ xs) ≡ Some y)))
    by_test true is rest = inr (0, x, (found_here (p x) (prefix_len (λ y. not (p y)) xs) (length xs) is, rw is refl))
    by_test false is (inl h) = inl (position_none_cons p x xs is h.0, rw is (h.1))
    by_test false is (inr h) =
        inr (suc (prefix_len (λ y. not (p y)) xs), h.1, (found_cons (p x) (prefix_len (λ y. not (p y)) xs) (length xs) h.0 is h.2.0, rw is (h.2.1)))

pub position_here : {X : Type 0} (p : X → Bool) (x : X) (xs : List X) → p x ≡ true → position p (x ∷ xs) ≡ Some 0
position_here p x xs passes = found_here (p x) (prefix_len (λ y. not (p y)) xs) (length xs) passes

found_later : (b : Bool) (k n a : ℕ) → b ≡ false → cond (nat_lt k n) (Some k) None ≡ Some a →
    cond (nat_lt (cond (not b) (1 + k) 0) (suc n)) (Some (cond (not b) (1 + k) 0)) None ≡ Some (suc a)
found_later true k n a fails is = cc
found_later false k n a fails is = grind (arith, nat_tests)

pub position_later : {X : Type 0} (p : X → Bool) (x : X) (xs : List X) (a : ℕ) → p x ≡ false → position p xs ≡ Some a → position p (x ∷ xs) ≡ Some (suc a)
position_later p x xs a fails is = found_later (p x) (prefix_len (λ y. not (p y)) xs) (length xs) a fails is

-- what stands at the place of the first that passes
pub found_at : {X : Type 0} (p : X → Bool) (xs : List X) (a : ℕ) → position p xs ≡ Some a →
    (x : X) × (slice_get xs a ≡ Some x) × (p x ≡ true) × (find p xs ≡ Some x)
found_at p [] a is = cc
found_at {X} p (x ∷ xs) a is = by_test (p x) refl (λ k later. found_at p xs k later)
  where
    by_test : (b : Bool) → p x ≡ b → ((k : ℕ) → position p xs ≡ Some k → (y : X) × (slice_get xs k ≡ Some y) × (p y ≡ true) × (find p xs ≡ Some y)) →
        (y : X) × (slice_get (x ∷ xs) a ≡ Some y) × (p y ≡ true) × (find p (x ∷ xs) ≡ Some y)
    by_test true passes rest =
        let first : Some a ≡ Some 0 = sym is ∙ position_here p x xs passes in
        let at : a ≡ 0 = same_Some a 0 first in
        (x, ap (slice_get (x ∷ xs)) at, passes, rw passes refl)
    by_test false fails rest = later (find_position p xs) rest
      where
        later : ((position p xs ≡ None) × (find p xs ≡ None)) ⊎ ((k : ℕ) × (y : X) × ((position p xs ≡ Some k) × (find p xs ≡ Some y))) →
            ((k : ℕ) → position p xs ≡ Some k → (y : X) × (slice_get xs k ≡ Some y) × (p y ≡ true) × (find p xs ≡ Some y)) →
            (y : X) × (slice_get (x ∷ xs) a ≡ Some y) × (p y ≡ true) × (find p (x ∷ xs) ≡ Some y)
        later (inl h) rest = let none : position p (x ∷ xs) ≡ None = position_none_cons p x xs fails h.0 in cc
        later (inr h) rest =
            let at : a ≡ suc h.0 = same_Some a (suc h.0) (sym is ∙ position_later p x xs h.0 fails h.2.0) in
            let found = rest h.0 h.2.0 in
            (found.0, ap (slice_get (x ∷ xs)) at ∙ found.1, found.2, rw fails found.3)
