-- Arcs that are added one after the other.
use Rattle.std.proofs.Common.{◌≡◌, ℕ, suc, ◌+◌, ◌<◌, Option, Some, None, List, [], ◌∷◌, ◌++◌, length, slice_index_or, take, sym, ap, refl, ◌∙◌, arith, append_assoc}
use Rattle.std.specs.Prelude.{option_to_list}
use Rattle.std.specs.List.{filter_map, cons_option, range_with_len}
use Rattle.std.proofs.lemmas.List.{append-nil, take_more}
use Rattle.compact_types.proofs.Laws.{range_push}

-- what is kept of one value more
cons_some : {B : Type 0} (o : Option B) (ys : List B) → cons_option o ys ≡ option_to_list o ++ ys
cons_some None ys = refl
cons_some (Some y) ys = refl

pub kept_last : {A B : Type 0} (h : A → Option B) (xs : List A) (x : A) → filter_map h (xs ++ x ∷ []) ≡ filter_map h xs ++ option_to_list (h x)
kept_last {A} {B} h [] x = cons_some (h x) [] ∙ append-nil (option_to_list (h x))
kept_last {A} {B} h (y ∷ xs) x =
    ap (cons_option (h y)) (kept_last h xs x) ∙ cons_some (h y) (filter_map h xs ++ option_to_list (h x))
    ∙ sym (append_assoc (option_to_list (h y)) (filter_map h xs) (option_to_list (h x)))
    ∙ ap (λ (l : List B). l ++ option_to_list (h x)) (sym (cons_some (h y) (filter_map h xs)))

-- a range with one number more
pub range_more : {B : Type 0} (h : ℕ → Option B) (i n : ℕ) → n ≡ suc i → filter_map h (range_with_len 0 n) ≡ filter_map h (range_with_len 0 i) ++ option_to_list (h i)
range_more {B} h i n is =
    let number : 0 + i ≡ i = omega arith in
    ap (λ (k : ℕ). filter_map h (range_with_len 0 k)) is ∙ ap (filter_map h) (range_push 0 i) ∙ ap (λ (x : ℕ). filter_map h (range_with_len 0 i ++ x ∷ [])) number
    ∙ kept_last h (range_with_len 0 i) i

pub list_more : {A B : Type 0} (h : A → Option B) (xs : List A) (d : A) (i : ℕ) → i < length xs →
    filter_map h (take (i + 1) xs) ≡ filter_map h (take i xs) ++ option_to_list (h (slice_index_or xs i d))
list_more {A} {B} h xs d i within = ap (filter_map h) (take_more xs i d within) ∙ kept_last h (take i xs) (slice_index_or xs i d)

-- the same for what the code reads
pushed_on : {B : Type 0} (front kept longer old new : List B) (o o' : Option B) → old ≡ front ++ kept → o ≡ o' → new ≡ old ++ option_to_list o →
    longer ≡ kept ++ option_to_list o' → new ≡ front ++ longer
pushed_on {B} front kept longer old new o o' is_old is_o is_new more =
    is_new ∙ ap (λ (l : List B). l ++ option_to_list o) is_old ∙ append_assoc front kept (option_to_list o)
    ∙ ap (λ (p : Option B). front ++ (kept ++ option_to_list p)) is_o ∙ ap (λ (l : List B). front ++ l) (sym more)

pub pushed_range : {B : Type 0} (h : ℕ → Option B) (i : ℕ) (front old new : List B) (kept : Option B) →
    old ≡ front ++ filter_map h (range_with_len 0 i) → kept ≡ h i → new ≡ old ++ option_to_list kept → new ≡ front ++ filter_map h (range_with_len 0 (i + 1))
pushed_range {B} h i front old new kept is_old is_kept is_new =
    let next : i + 1 ≡ suc i = omega arith in
    pushed_on front (filter_map h (range_with_len 0 i)) (filter_map h (range_with_len 0 (i + 1))) old new kept (h i) is_old is_kept is_new (range_more h i (i + 1) next)

pub pushed_list : {A B : Type 0} (h : A → Option B) (xs : List A) (d : A) (i : ℕ) (front old new : List B) (kept : Option B) → i < length xs →
    old ≡ front ++ filter_map h (take i xs) → kept ≡ h (slice_index_or xs i d) → new ≡ old ++ option_to_list kept → new ≡ front ++ filter_map h (take (i + 1) xs)
pushed_list {A} {B} h xs d i front old new kept within is_old is_kept is_new =
    pushed_on front (filter_map h (take i xs)) (filter_map h (take (i + 1) xs)) old new kept (h (slice_index_or xs i d)) is_old is_kept is_new (list_more h xs d i within)
