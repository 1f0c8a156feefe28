-- Which node has an id, as the map of ids grows.
use Rattle.std.proofs.Common.{◌≡◌, ℕ, ◌+◌, ◌<◌, ◌≤◌, ℤ, pos, Bool, true, false, cond, eqb, ltb, List, [], ◌∷◌, ◌++◌, length, take, get_or, Option, None, Some, is_some, refl, sym, ap, ◌∙◌, subst, arith, zero-add, add-one, not}
use Rattle.std.specs.List.{find, position, position_or_len, range_with_len}
use Rattle.std.specs.Option.{option_or}
use Rattle.std.specs.Ordering.{int_eq}
use Rattle.std.proofs.lemmas.Cmp.{int_eq_equiv}
use Rattle.std.proofs.lemmas.Bool.Decides.{Decides-int_eq, nat_tests}
use Rattle.std.proofs.lemmas.List.{take_more, length_push, length-take-le, length-map, get_or-map}
use Rattle.std.proofs.lemmas.List.Sums.{prefix_len-le-length}
use Rattle.std.proofs.lemmas.List.Folds.{position_or_len_push, find-append}
use Rattle.compact_types.proofs.Laws.{range_push}
use Rattle.drawing_read.specs.declared.written.Node.{Node}
use Rattle.drawing_read.specs.Ids.{number_of_id, id_of, ids_of, repeats_id}

push_number : (k l m : ℕ) (b : Bool) → k ≤ l → m ≡ cond (eqb k l) (l + cond b 0 1) k →
    cond (ltb m (l + 1)) (Some m) None ≡ cond (is_some (cond (ltb k l) (Some k) None)) (cond (ltb k l) (Some k) None) (cond b (Some l) None)
push_number k l m true within is = grind (arith, nat_tests)
push_number k l m false within is = grind (arith, nat_tests)

-- the place of the first that passes, with one more at the end
position_push : {X : Type 0} (p : X → Bool) (xs : List X) (y : X) →
    position p (xs ++ y ∷ []) ≡ cond (is_some (position p xs)) (position p xs) (cond (p y) (Some (length xs)) None)
position_push p xs y =
    ap (λ l. cond (ltb (position_or_len p (xs ++ y ∷ [])) l) (Some (position_or_len p (xs ++ y ∷ []))) None) (length_push xs y)
    ∙ push_number (position_or_len p xs) (length xs) (position_or_len p (xs ++ y ∷ [])) (p y) (prefix_len-le-length (λ x. not (p x)) xs) (position_or_len_push p xs y)

is_none_of : {X : Type 0} (o : Option X) → is_some o ≡ false → o ≡ None
is_none_of None none = refl
is_none_of (Some x) none = absurd (cc)

kept : (o : Option ℕ) → cond (is_some o) o None ≡ o
kept None = refl
kept (Some n) = refl

-- one more id that no earlier node has
pub look_more : (ids : List ℤ) (x : ℤ) (before after : ℤ → Option ℕ) →
    ((q : ℤ) → before q ≡ number_of_id ids q) → ((q : ℤ) → after q ≡ cond (int_eq x q) (Some (length ids)) (before q)) →
    is_some (before x) ≡ false → (q : ℤ) → after q ≡ number_of_id (ids ++ x ∷ []) q
look_more ids x before after known updated absent q = by (int_eq x q) refl
  where
    pushed : number_of_id (ids ++ x ∷ []) q ≡ cond (is_some (before q)) (before q) (cond (int_eq q x) (Some (length ids)) None)
    pushed = rw (known q) (position_push (int_eq q) ids x)

    by : (b : Bool) → int_eq x q ≡ b → after q ≡ number_of_id (ids ++ x ∷ []) q
    by true is =
        let same : x ≡ q = (Decides-int_eq x q).0 is in
        let none : is_some (before q) ≡ false = ap (λ (z : ℤ). is_some (before z)) (sym same) ∙ absent in
        let back : int_eq q x ≡ true = (Decides-int_eq q x).1 (sym same) in
        updated q ∙ ap (λ b. cond b (Some (length ids)) (before q)) is
        ∙ sym (pushed ∙ ap (λ b. cond b (before q) (cond (int_eq q x) (Some (length ids)) None)) none ∙ ap (λ b. cond b (Some (length ids)) None) back)
    by false is =
        let back : int_eq q x ≡ false = int_eq_equiv.symm q x ∙ is in
        updated q ∙ ap (λ b. cond b (Some (length ids)) (before q)) is ∙ sym (pushed ∙ ap (λ b. cond (is_some (before q)) (before q) (cond b (Some (length ids)) None)) back ∙ kept (before q))

-- the id of the node at a place
id_at : (nodes : List Node) (n : ℕ) (d : Node) (e : ℤ) → n < length nodes → get_or (ids_of nodes) n e ≡ id_of (get_or nodes n d)
id_at nodes n d e within = get_or-map id_of nodes n d e within

ids_more : (nodes : List Node) (n : ℕ) (d : Node) → n < length nodes → take (n + 1) (ids_of nodes) ≡ take n (ids_of nodes) ++ id_of (get_or nodes n d) ∷ []
ids_more nodes n d within =
    take_more (ids_of nodes) n (pos 0) (subst (λ l. n < l) (sym (length-map nodes id_of)) within)
    ∙ ap (λ (id : ℤ). take n (ids_of nodes) ++ id ∷ []) (id_at nodes n d (pos 0) within)

-- an id that an earlier node has
look_same : (ids : List ℤ) (x : ℤ) (look : ℤ → Option ℕ) → ((q : ℤ) → look q ≡ number_of_id ids q) → is_some (look x) ≡ true →
    (q : ℤ) → look q ≡ number_of_id (ids ++ x ∷ []) q
look_same ids x look known seen q = by (int_eq q x) refl
  where
    pushed : number_of_id (ids ++ x ∷ []) q ≡ cond (is_some (look q)) (look q) (cond (int_eq q x) (Some (length ids)) None)
    pushed = rw (known q) (position_push (int_eq q) ids x)

    by : (b : Bool) → int_eq q x ≡ b → look q ≡ number_of_id (ids ++ x ∷ []) q
    by true is =
        let same : x ≡ q = sym ((Decides-int_eq q x).0 is) in
        let some : is_some (look q) ≡ true = ap (λ (z : ℤ). is_some (look z)) (sym same) ∙ seen in
        sym (pushed ∙ ap (λ b. cond b (look q) (cond (int_eq q x) (Some (length ids)) None)) some)
    by false is = sym (pushed ∙ ap (λ b. cond (is_some (look q)) (look q) (cond b (Some (length ids)) None)) is ∙ kept (look q))

or_none : (o : Option ℕ) → option_or o None ≡ o
or_none None = refl
or_none (Some n) = refl

module _ (nodes : List Node) (n : ℕ) (d : Node) (within : n < length nodes) (before : ℤ → Option ℕ)
    (known : (q : ℤ) → before q ≡ number_of_id (take n (ids_of nodes)) q) where
  repeats_here : repeats_id (ids_of nodes) n ≡ is_some (before (id_of (get_or nodes n d)))
  repeats_here = ap (λ (id : ℤ). is_some (number_of_id (take n (ids_of nodes)) id)) (id_at nodes n d (pos 0) within) ∙ ap is_some (sym (known (id_of (get_or nodes n d))))

  -- the first node with the id of an earlier one, with one more node
  abbrev repeated_next : Bool → Option ℕ
  repeated_next seen = option_or (find (repeats_id (ids_of nodes)) (range_with_len 0 n)) (cond seen (Some n) None)

  repeated_more : find (repeats_id (ids_of nodes)) (range_with_len 0 (n + 1)) ≡ repeated_next (is_some (before (id_of (get_or nodes n d))))
  repeated_more =
      ap (λ (k : ℕ). find (repeats_id (ids_of nodes)) (range_with_len 0 k)) (add-one n)
      ∙ ap (find (repeats_id (ids_of nodes))) (range_push 0 n)
      ∙ find-append (repeats_id (ids_of nodes)) (range_with_len 0 n) ((0 + n) ∷ [])
      ∙ ap (λ (k : ℕ). option_or (find (repeats_id (ids_of nodes)) (range_with_len 0 n)) (cond (repeats_id (ids_of nodes) k) (Some k) None)) (zero-add n)
      ∙ ap repeated_next repeats_here

  -- a node with the id of an earlier one
  pub repeated_here : is_some (before (id_of (get_or nodes n d))) ≡ true → (so_far : Option ℕ) → so_far ≡ find (repeats_id (ids_of nodes)) (range_with_len 0 n) →
      option_or so_far (Some n) ≡ find (repeats_id (ids_of nodes)) (range_with_len 0 (n + 1))
  repeated_here seen so_far so = ap (λ (o : Option ℕ). option_or o (Some n)) so ∙ sym (repeated_more ∙ ap repeated_next seen)

  -- a node with an id that no earlier one has
  pub not_repeated : is_some (before (id_of (get_or nodes n d))) ≡ false → (so_far : Option ℕ) → so_far ≡ find (repeats_id (ids_of nodes)) (range_with_len 0 n) →
      so_far ≡ find (repeats_id (ids_of nodes)) (range_with_len 0 (n + 1))
  not_repeated new so_far so = so ∙ sym (or_none (find (repeats_id (ids_of nodes)) (range_with_len 0 n))) ∙ sym (repeated_more ∙ ap repeated_next new)

  ids_next : (q : ℤ) → number_of_id (take n (ids_of nodes) ++ id_of (get_or nodes n d) ∷ []) q ≡ number_of_id (take (n + 1) (ids_of nodes)) q
  ids_next q = ap (λ (ids : List ℤ). number_of_id ids q) (sym (ids_more nodes n d within))

  -- the map stays, where an earlier node has the id
  pub same_ids : is_some (before (id_of (get_or nodes n d))) ≡ true → (q : ℤ) → before q ≡ number_of_id (take (n + 1) (ids_of nodes)) q
  same_ids seen q = look_same (take n (ids_of nodes)) (id_of (get_or nodes n d)) before known seen q ∙ ids_next q

  -- the map with one more id
  pub one_more_id : (after : ℤ → Option ℕ) → ((q : ℤ) → after q ≡ cond (int_eq (id_of (get_or nodes n d)) q) (Some n) (before q)) →
      is_some (before (id_of (get_or nodes n d))) ≡ false → (q : ℤ) → after q ≡ number_of_id (take (n + 1) (ids_of nodes)) q
  one_more_id after updated new q =
      let long : length (take n (ids_of nodes)) ≡ n = length-take-le n (ids_of nodes) (omega (arith, length-map nodes id_of)) in
      look_more (take n (ids_of nodes)) (id_of (get_or nodes n d)) before after known
      (λ q. updated q ∙ ap (λ m. cond (int_eq (id_of (get_or nodes n d)) q) (Some m) (before q)) (sym long)) new q
      ∙ ids_next q
