-- Lists of pairs with the value of one pair changed.
use Rattle.std.proofs.Common.{◌≡◌, ℕ, zero, suc, ◌+◌, ◌⊎◌, inl, inr, arith, Bool, true, false, not, cond, List, [], ◌∷◌, ◌++◌, length, map, Option, None, Some, refl, sym, ap, ◌∙◌, nat_lt}
use Rattle.std.specs.List.{position, prefix_len}
use Rattle.std.specs.Option.{option_map}
use Rattle.std.specs.Prelude.{slice_get}
use Rattle.std.specs.Str.{bytes_eq}
use Rattle.std.proofs.lemmas.Bool.Decides.{nat_tests}
use Rattle.std.proofs.lemmas.Slice.Eq.{bytes_eq-Decides}
use Rattle.gml_text.specs.declared.tree.Pair.{Pair}
use Rattle.gml_text.specs.declared.tree.Value.{Value}
use Rattle.drawing_read.specs.Lookups.{has_key, first_under, place_under}
use Rattle.gml_print.specs.Placing.{with_changed_value, set_changed, change_at}
use Rattle.drawing_read.proofs.Laws.{position-map}

-- the value of the pair at a place changed
abbrev pub changed_at : ℕ → (Value → Value) → List Pair → List Pair
changed_at a change [] = []
changed_at zero change (pair ∷ pairs) = with_changed_value change pair ∷ pairs
changed_at (suc a) change (pair ∷ pairs) = pair ∷ changed_at a change pairs

set_behind : (pair : Pair) (pairs : List Pair) (a : ℕ) (change : Value → Value) (o : Option Pair) →
    set_changed (pair ∷ pairs) (suc a) change o ≡ pair ∷ set_changed pairs a change o
set_behind pair pairs a change None = refl
set_behind pair pairs a change (Some other) = refl

pub change_at_is : (a : ℕ) (change : Value → Value) (pairs : List Pair) → change_at a change pairs ≡ changed_at a change pairs
change_at_is a change [] = refl
change_at_is zero change (pair ∷ pairs) = refl
change_at_is (suc a) change (pair ∷ pairs) = set_behind pair pairs a change (slice_get pairs a) ∙ ap (λ rest. pair ∷ rest) (change_at_is a change pairs)

pub changed_twice : (a : ℕ) (f g : Value → Value) (pairs : List Pair) → changed_at a g (changed_at a f pairs) ≡ changed_at a (λ value. g (f value)) pairs
changed_twice a f g [] = refl
changed_twice zero f g (pair ∷ pairs) = refl
changed_twice (suc a) f g (pair ∷ pairs) = ap (λ rest. pair ∷ rest) (changed_twice a f g pairs)

pub not_changed : (a : ℕ) (pairs : List Pair) → changed_at a (λ value. value) pairs ≡ pairs
not_changed a [] = refl
not_changed zero (pair ∷ pairs) = refl
not_changed (suc a) (pair ∷ pairs) = ap (λ rest. pair ∷ rest) (not_changed a pairs)

-- the pair that is changed stands behind so many
pub changed_behind : (front : List Pair) (a : ℕ) (change : Value → Value) (pair : Pair) (pairs : List Pair) → length front ≡ a →
    changed_at a change (front ++ pair ∷ pairs) ≡ front ++ with_changed_value change pair ∷ pairs
changed_behind [] zero change pair pairs long = refl
changed_behind [] (suc a) change pair pairs long = absurd (omega arith)
changed_behind (other ∷ front) zero change pair pairs long = absurd (omega arith)
changed_behind (other ∷ front) (suc a) change pair pairs long = ap (λ rest. other ∷ rest) (changed_behind front a change pair pairs (omega arith))

-- the value of the first pair with a key changed
abbrev pub change_first : List ℕ → (Value → Value) → List Pair → List Pair
change_first key change [] = []
change_first key change (pair ∷ pairs) = cond (has_key key pair) (with_changed_value change pair ∷ pairs) (pair ∷ change_first key change pairs)

found_apart : (b : Bool) (k n a : ℕ) → cond (nat_lt (cond (not b) (1 + k) 0) (suc n)) (Some (cond (not b) (1 + k) 0)) None ≡ Some a →
    ((b ≡ true) × (a ≡ 0)) ⊎ ((b ≡ false) × (a ≡ suc k) × (cond (nat_lt k n) (Some k) None ≡ Some k))
found_apart true k n a is = inl (refl, grind (arith, nat_tests))
found_apart false k n a is = inr (refl, grind (arith, nat_tests), grind (arith, nat_tests))

pub found_tail : {X : Type 0} (p : X → Bool) (x : X) (xs : List X) (a : ℕ) → position p (x ∷ xs) ≡ Some a →
    ((p x ≡ true) × (a ≡ 0)) ⊎ ((p x ≡ false) × (a ≡ suc (prefix_len (λ y. not (p y)) xs)) × (position p xs ≡ Some (prefix_len (λ y. not (p y)) xs)))
found_tail p x xs a is = found_apart (p x) (prefix_len (λ y. not (p y)) xs) (length xs) a is

-- a change at the place of a key is one of the first pair with it
pub changed_is_first : (key : List ℕ) (change : Value → Value) (pairs : List Pair) (a : ℕ) → place_under key pairs ≡ Some a →
    changed_at a change pairs ≡ change_first key change pairs
changed_is_first key change [] a is = refl
changed_is_first key change (pair ∷ pairs) a is =
    by_head (found_tail (has_key key) pair pairs a is) (λ k found. changed_is_first key change pairs k found)
  where
    by_head : ((has_key key pair ≡ true) × (a ≡ 0)) ⊎ ((has_key key pair ≡ false) × (a ≡ suc (prefix_len (λ y. not (has_key key y)) pairs)) ×
        (position (has_key key) pairs ≡ Some (prefix_len (λ y. not (has_key key y)) pairs))) →
        ((k : ℕ) → place_under key pairs ≡ Some k → changed_at k change pairs ≡ change_first key change pairs) →
        changed_at a change (pair ∷ pairs) ≡ change_first key change (pair ∷ pairs)
    by_head (inl h) rest = rw (h.0, h.1) refl
    by_head (inr h) rest = rw (h.0, h.1) (ap (λ rest. pair ∷ rest) (rest (prefix_len (λ y. not (has_key key y)) pairs) h.2))

abbrev pub keys_of : List Pair → List (List ℕ)
keys_of pairs = map (λ (pair : Pair). pair.key) pairs

-- a change of a value leaves all keys
pub same_keys : (key : List ℕ) (change : Value → Value) (pairs : List Pair) → keys_of (change_first key change pairs) ≡ keys_of pairs
same_keys key change [] = refl
same_keys key change (pair ∷ pairs) = by_test (has_key key pair) (same_keys key change pairs)
  where
    by_test : (b : Bool) → keys_of (change_first key change pairs) ≡ keys_of pairs →
        keys_of (cond b (with_changed_value change pair ∷ pairs) (pair ∷ change_first key change pairs)) ≡ keys_of (pair ∷ pairs)
    by_test true rest = refl
    by_test false rest = ap (λ rest. pair.key ∷ rest) rest

-- pairs with the same keys have each key at the same place
pub same_places : (key : List ℕ) (xs ys : List Pair) → keys_of xs ≡ keys_of ys → place_under key xs ≡ place_under key ys
same_places key xs ys same =
    sym (position-map (λ k. bytes_eq k key) (λ (pair : Pair). pair.key) xs)
    ∙ ap (position (λ k. bytes_eq k key)) same ∙ position-map (λ k. bytes_eq k key) (λ (pair : Pair). pair.key) ys

-- the pair that counts is the changed one
pub first_changed : (key : List ℕ) (change : Value → Value) (pairs : List Pair) →
    first_under key (change_first key change pairs) ≡ option_map (with_changed_value change) (first_under key pairs)
first_changed key change [] = refl
first_changed key change (pair ∷ pairs) = by_test (has_key key pair) refl (first_changed key change pairs)
  where
    by_test : (b : Bool) → has_key key pair ≡ b →
        first_under key (change_first key change pairs) ≡ option_map (with_changed_value change) (first_under key pairs) →
        first_under key (cond b (with_changed_value change pair ∷ pairs) (pair ∷ change_first key change pairs)) ≡
        option_map (with_changed_value change) (cond b (Some pair) (first_under key pairs))
    by_test true is rest = rw is refl
    by_test false is rest = rw is rest

-- two keys that no pair has both
abbrev pub AreApart : List ℕ → List ℕ → Type 0
AreApart key other = (word : List ℕ) → bytes_eq word key ≡ true → bytes_eq word other ≡ false

-- of another key the pair that counts stays
pub first_of_other : (key other : List ℕ) (change : Value → Value) (pairs : List Pair) → AreApart key other →
    first_under other (change_first key change pairs) ≡ first_under other pairs
first_of_other key other change [] apart = refl
first_of_other key other change (pair ∷ pairs) apart = by_test (has_key key pair) refl (first_of_other key other change pairs apart)
  where
    by_test : (b : Bool) → has_key key pair ≡ b → first_under other (change_first key change pairs) ≡ first_under other pairs →
        first_under other (cond b (with_changed_value change pair ∷ pairs) (pair ∷ change_first key change pairs)) ≡ first_under other (pair ∷ pairs)
    by_test true is rest = rw (apart pair.key is) refl
    by_test false is rest = ap (cond (has_key other pair) (Some pair)) rest

-- two words of which one has a byte that the other does not
pub apart_words : (key other : List ℕ) → bytes_eq key other ≡ false → AreApart key other
apart_words key other differ word is = ap (λ w. bytes_eq w other) ((bytes_eq-Decides word key).0 is) ∙ differ
