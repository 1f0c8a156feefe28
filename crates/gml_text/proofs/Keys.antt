-- The first byte of a key and the others.
use Rattle.std.proofs.Common.{◌≡◌, ℕ, ◌-◌, ◌≤◌, ◌&&◌, Bool, true, false, List, [], ◌∷◌, length, get_or, take, drop, refl, ◌∙◌, ap, arith}
use Rattle.std.specs.List.{list_all}
use Rattle.std.proofs.lemmas.List.{take_rest}
use Rattle.gml_text.specs.Bytes.{begins_key, goes_on_key, is_key}

and_true : (a b : Bool) → a ≡ true → b ≡ (a && b)
and_true true b e = refl
and_true false b e = cc

pub is_key-first_and_others : (word : List ℕ) → 1 ≤ length word → begins_key (get_or word 0 0) ≡ true →
    list_all goes_on_key (take (length word - 1) (drop 1 word)) ≡ is_key word
is_key-first_and_others [] some first = absurd (omega arith)
is_key-first_and_others (b ∷ bytes) some first =
    ap (list_all goes_on_key) (take_rest (b ∷ bytes) 1) ∙ and_true (begins_key b) (list_all goes_on_key bytes) first
