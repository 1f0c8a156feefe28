-- The list that counts under a key, by the place of its pair.
use Rattle.std.proofs.Common.{◌≡◌, ℕ, ◌<◌, ◌≤◌, Bool, true, false, cond, ltb, List, length, get_or, None, Some, refl, sym, ap, ◌∙◌, arith}
use Rattle.std.specs.Prelude.{slice_get, option_and_then}
use Rattle.std.specs.List.{find, position, position_or_len}
use Rattle.std.proofs.lemmas.Bool.Decides.{nat_tests}
use Rattle.std.proofs.lemmas.Option.{slice_get-get_or, slice_get_past}
use Rattle.std.proofs.lemmas.List.Folds.{find_at}
use Rattle.gml_text.specs.declared.tree.Pair.{Pair}
use Rattle.drawing_read.specs.Lookups.{has_key, list_in, first_list, place_under, IsListAt}

-- a place that is not told is past the end
pub past_end : (k l : ℕ) → cond (ltb k l) (Some k) None ≡ None → l ≤ k
past_end k l none = by (ltb k l) refl none
  where
    by : (b : Bool) → ltb k l ≡ b → cond b (Some k) None ≡ None → l ≤ k
    by true test none = absurd (cc)
    by false test none = grind (arith, nat_tests)

-- if no item passes, none is found
none_found : {X : Type 0} (p : X → Bool) (xs : List X) → position p xs ≡ None → find p xs ≡ None
none_found p xs none = find_at p xs ∙ slice_get_past xs (position_or_len p xs) (past_end (position_or_len p xs) (length xs) none)

-- the first item that passes is found
first_found : {X : Type 0} (p : X → Bool) (xs : List X) (i : ℕ) (x : X) → position p xs ≡ Some i → x ≡ get_or xs i x → find p xs ≡ Some x
first_found p xs i x first is = by (ltb (position_or_len p xs) (length xs)) refl first
  where
    by : (b : Bool) → ltb (position_or_len p xs) (length xs) ≡ b → cond b (Some (position_or_len p xs)) None ≡ Some i → find p xs ≡ Some x
    by true test at =
        let same : position_or_len p xs ≡ i = cc in
        let within : position_or_len p xs < length xs = grind (arith, nat_tests) in
        let there : i < length xs = omega arith in
        find_at p xs ∙ ap (slice_get xs) same ∙ slice_get-get_or xs i x there ∙ ap Some (sym is)
    by false test at = absurd (cc)

pub no_list : (key : List ℕ) (pairs : List Pair) → place_under key pairs ≡ None → first_list key pairs ≡ None
no_list key pairs none = ap (option_and_then (λ (pair : Pair). list_in pair.value)) (none_found (has_key key) pairs none)

module _ (key : List ℕ) (pairs : List Pair) (at : ℕ) (pair : Pair) (first : place_under key pairs ≡ Some at) (is : pair ≡ get_or pairs at pair) where
  pub first_list_is : first_list key pairs ≡ list_in pair.value
  first_list_is = ap (option_and_then (λ (pair : Pair). list_in pair.value)) (first_found (has_key key) pairs at pair first is)

  pub list_at : (list : List Pair) → list_in pair.value ≡ Some list → IsListAt key pairs at list
  list_at list there = record { place = first; there = first_list_is ∙ there }
