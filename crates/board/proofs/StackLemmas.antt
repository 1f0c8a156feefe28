-- The list of waiting branches, and the counts over standings.
use Rattle.std.proofs.Common.{◌≡◌, ◌≢◌, ℕ, zero, suc, ◌+◌, ◌*◌, ◌-◌, ◌<◌, ◌≤◌, cond, List, [], ◌∷◌, ◌++◌, length, get_or, set, take, slice_index, count_by, Contains, refl, sym, ap, ◌∙◌, ◌⊎◌, inl, inr, subst, arith, append_assoc, length-append, length-set, get_or-set_same, get_or-set_other}
use Rattle.std.proofs.lemmas.Bool.{cases_lt, cases_order}
use Rattle.std.proofs.lemmas.List.{get_or_append_left, get_or-append-add, get_or_past, take_all}
use Rattle.std.proofs.lemmas.List.Sums.{sum_by-set, sum_by-append, sum_by-cons}
use Rattle.std.proofs.Math.Seq.{get_or-append_seam, take-suc}
use Rattle.compact_types.specs.declared.search.Choice.{Choice}
use Rattle.board.specs.declared.entries.Settled.{Settled}
use Rattle.board.specs.declared.entries.Settled.TheVariants.{Closed}
use Rattle.board.specs.declared.standings.Standing.{Standing}
use Rattle.board.specs.declared.standings.Standing.TheVariants.{Waiting, Held, Done}
use Rattle.board.specs.Histories.{State, is_open, four_waiting}
use Rattle.board.specs.inner.Stacks.{standing_at, AreRising, HoldWaiting, IsStack}
use Rattle.board.specs.inner.Tables.{AreBranches, owed, owed_by}

-- whether the standing is open, as a number
abbrev pub counts_one : Standing → ℕ
counts_one standing = cond (is_open standing) 1 0

-- rising numbers

pub rising_push : (numbers : List ℕ) (n : ℕ) → AreRising numbers n → AreRising (numbers ++ n ∷ []) (suc n)
rising_push numbers n rising = record {
  in_order = λ i j less below. order i j less (cases_lt j (length numbers)) below;
  below = λ i below. bound i (cases_lt i (length numbers)) below;
}
  where
    total : length (numbers ++ n ∷ []) ≡ length numbers + 1
    total = length-append numbers (n ∷ [])

    front : (i : ℕ) → i < length numbers → slice_index (numbers ++ n ∷ []) i ≡ slice_index numbers i
    front i less = get_or_append_left numbers (n ∷ []) 0 i less

    last : (i : ℕ) → i ≡ length numbers → slice_index (numbers ++ n ∷ []) i ≡ n
    last i e = rw e (get_or-append_seam numbers n [] 0)

    bound : (i : ℕ) → (i < length numbers) ⊎ (length numbers ≤ i) → i < length (numbers ++ n ∷ []) → slice_index (numbers ++ n ∷ []) i < suc n
    bound i (inl less) below = let small = rising.below i less in rw (front i less) (omega arith)
    bound i (inr past) below = rw (last i (omega (arith, total))) (omega arith)

    order : (i j : ℕ) → i < j → (j < length numbers) ⊎ (length numbers ≤ j) → j < length (numbers ++ n ∷ []) →
        slice_index (numbers ++ n ∷ []) i < slice_index (numbers ++ n ∷ []) j
    order i j less (inl inside) below =
        let first : i < length numbers = omega arith in rw (front i first, front j inside) (rising.in_order i j less inside)
    order i j less (inr past) below =
        let first : i < length numbers = omega (arith, total) in
        rw (front i first, last j (omega (arith, total))) (rising.below i first)

pub rising_four : (numbers : List ℕ) (n : ℕ) → AreRising numbers n →
    AreRising (numbers ++ n ∷ (n + 1) ∷ (n + 2) ∷ (n + 3) ∷ []) (n + 4)
rising_four numbers n rising =
    let one = rising_push numbers n rising in
    let two = rising_push (numbers ++ n ∷ []) (suc n) one in
    let three = rising_push ((numbers ++ n ∷ []) ++ suc n ∷ []) (suc (suc n)) two in
    let four = rising_push (((numbers ++ n ∷ []) ++ suc n ∷ []) ++ suc (suc n) ∷ []) (suc (suc (suc n))) three in
    let sums : n + 1 ≡ suc n = omega arith in
    let sums_2 : n + 2 ≡ suc (suc n) = omega arith in
    let sums_3 : n + 3 ≡ suc (suc (suc n)) = omega arith in
    let sums_4 : n + 4 ≡ suc (suc (suc (suc n))) = omega arith in
    rw (sums, sums_2, sums_3, sums_4) (simp append_assoc at four)

pub rising_front : (numbers : List ℕ) (n bound : ℕ) → AreRising (numbers ++ n ∷ []) bound → AreRising numbers bound
rising_front numbers n bound rising = record {
  in_order = λ i j less below.
      let inside : j < length (numbers ++ n ∷ []) = omega (arith, length-append numbers (n ∷ [])) in
      let first : i < length numbers = omega arith in
      let order = rising.in_order i j less inside in
      rw (front i first, front j below) at order;
  below = λ i below.
      let inside : i < length (numbers ++ n ∷ []) = omega (arith, length-append numbers (n ∷ [])) in
      let small = rising.below i inside in
      rw (front i below) at small;
}
  where
    total : length (numbers ++ n ∷ []) ≡ length numbers + 1
    total = length-append numbers (n ∷ [])

    front : (i : ℕ) → i < length numbers → slice_index (numbers ++ n ∷ []) i ≡ slice_index numbers i
    front i less = get_or_append_left numbers (n ∷ []) 0 i less

pub rising_within : (numbers : List ℕ) (bound more : ℕ) → AreRising numbers bound → bound ≤ more → AreRising numbers more
rising_within numbers bound more rising less = record {
  in_order = rising.in_order;
  below = λ i inside. let small = rising.below i inside in omega arith;
}

-- standings

pub waits_below : (standings : List Standing) (id : ℕ) (standing : Standing) → standing_at standings id ≡ standing →
    (standing ≡ Done Closed → ⊥) → id < length standings
waits_below standings id standing stands other = by_place (cases_lt id (length standings))
  where
    by_place : (id < length standings) ⊎ (length standings ≤ id) → id < length standings
    by_place (inl below) = below
    by_place (inr past) = absurd (other (sym stands ∙ get_or_past standings id (Done Closed) past))

pub stands_same : (standings : List Standing) (id : ℕ) (standing : Standing) → id < length standings →
    standing_at (set standings id standing) id ≡ standing
stands_same standings id standing below = get_or-set_same standings id standing (Done Closed) below

pub stands_other : (standings : List Standing) (id other : ℕ) (standing : Standing) → other ≢ id →
    standing_at (set standings id standing) other ≡ standing_at standings other
stands_other standings id other standing differs = get_or-set_other standings id other standing (Done Closed) differs

-- waiting branches

pub hold_set : (standings : List Standing) (numbers : List ℕ) (id : ℕ) (standing : Standing) → HoldWaiting standings numbers →
    id < length standings → (standing ≡ Waiting → ⊥) → HoldWaiting (set standings id standing) numbers
hold_set standings numbers id standing hold below other = record {
  rising = rw (length-set standings id standing) hold.rising;
  each = λ at waits. by_place at waits (cases_order at id);
}
  where
    by_place : (at : ℕ) → standing_at (set standings id standing) at ≡ Waiting → (at ≡ id) ⊎ ((at < id) ⊎ (id < at)) → Contains numbers at
    by_place at waits (inl same) =
        let here : standing_at (set standings id standing) at ≡ standing = rw same (stands_same standings id standing below) in
        absurd (other (sym here ∙ waits))
    by_place at waits (inr apart) =
        let differs : at ≢ id = λ e. apart_not at id apart e in
        hold.each at (sym (stands_other standings id at standing differs) ∙ waits)
      where
        apart_not : (m n : ℕ) → (m < n) ⊎ (n < m) → m ≡ n → ⊥
        apart_not m n (inl less) e = omega arith
        apart_not m n (inr less) e = omega arith

pub hold_front : (standings : List Standing) (numbers : List ℕ) (n : ℕ) → HoldWaiting standings (numbers ++ n ∷ []) →
    (standing_at standings n ≡ Waiting → ⊥) → HoldWaiting standings numbers
hold_front standings numbers n hold other = record {
  rising = rising_front numbers n (length standings) hold.rising;
  each = λ at waits. by_place at waits (hold.each at waits);
}
  where
    by_place : (at : ℕ) → standing_at standings at ≡ Waiting → Contains (numbers ++ n ∷ []) at → Contains numbers at
    by_place at waits (k, below, is) = by_order (cases_lt k (length numbers))
      where
        total : length (numbers ++ n ∷ []) ≡ length numbers + 1
        total = length-append numbers (n ∷ [])

        by_order : (k < length numbers) ⊎ (length numbers ≤ k) → Contains numbers at
        by_order (inl less) = (k, less, sym (get_or_append_left numbers (n ∷ []) _ k less) ∙ is)
        by_order (inr past) =
            let last : k ≡ length numbers = omega (arith, total) in
            let here : get_or (numbers ++ n ∷ []) k at ≡ n = rw last (get_or-append_seam numbers n [] at) in
            absurd (other (rw (sym here ∙ is) waits))

-- the last number may be taken off where its branch does not wait
pub hold_popped : (standings : List Standing) (numbers : List ℕ) (n : ℕ) → HoldWaiting standings numbers →
    0 < length numbers → slice_index numbers (length numbers - 1) ≡ n → (standing_at standings n ≡ Waiting → ⊥) →
    HoldWaiting standings (take (length numbers - 1) numbers)
hold_popped standings numbers n hold some last other =
    hold_front standings (take (length numbers - 1) numbers) n (rw (← whole) hold) other
  where
    whole : numbers ≡ take (length numbers - 1) numbers ++ n ∷ []
    whole =
        let all : suc (length numbers - 1) ≡ length numbers = omega arith in
        let inside : length numbers - 1 < length numbers = omega arith in
        sym (take_all (length numbers) numbers (omega arith)) ∙ ap (λ k. take k numbers) (sym all)
        ∙ take-suc numbers (length numbers - 1) 0 inside ∙ ap (λ x. take (length numbers - 1) numbers ++ x ∷ []) last

pub stack_empty : (standings : List Standing) (numbers : List ℕ) → HoldWaiting standings numbers → length numbers ≡ 0 → IsStack standings numbers
stack_empty standings numbers hold none = record { held = hold; top = λ some. absurd (omega arith) }

-- the last number is the greatest that waits
pub stack_last : (standings : List Standing) (numbers : List ℕ) (id : ℕ) → IsStack standings numbers → standing_at standings id ≡ Waiting →
    (0 < length numbers) × (id ≤ slice_index numbers (length numbers - 1))
stack_last standings numbers id stack waits = by_place (stack.held.each id waits)
  where
    by_place : Contains numbers id → (0 < length numbers) × (id ≤ slice_index numbers (length numbers - 1))
    by_place (k, below, is) = (omega arith, by_order (cases_lt k (length numbers - 1)))
      where
        number : slice_index numbers k ≡ id
        number = index_default numbers k id below ∙ is
          where
            index_default : (xs : List ℕ) (i d : ℕ) → i < length xs → get_or xs i 0 ≡ get_or xs i d
            index_default [] i d less = absurd (omega arith)
            index_default (x ∷ xs) zero d less = refl
            index_default (x ∷ xs) (suc i) d less = index_default xs i d (omega arith)

        by_order : (k < length numbers - 1) ⊎ (length numbers - 1 ≤ k) → id ≤ slice_index numbers (length numbers - 1)
        by_order (inl less) =
            let order = stack.held.rising.in_order k (length numbers - 1) less (omega arith) in
            omega (arith, order, number)
        by_order (inr past) =
            let last : length numbers - 1 ≡ k = omega arith in
            rw last (omega (arith, number))

-- four more branches that wait, with the numbers after the others
abbrev pub next_four : ℕ → List ℕ
next_four n = n ∷ (n + 1) ∷ (n + 2) ∷ (n + 3) ∷ []

contains_next : (numbers : List ℕ) (n j : ℕ) → j < 4 → Contains (numbers ++ next_four n) (n + j)
contains_next numbers n j below = (length numbers + j, inside, found j below)
  where
    inside : length numbers + j < length (numbers ++ next_four n)
    inside = omega (arith, length-append numbers (next_four n))

    at : (i : ℕ) → i < 4 → get_or (next_four n) i (n + i) ≡ n + i
    at zero less = omega arith
    at (suc zero) less = refl
    at (suc (suc zero)) less = refl
    at (suc (suc (suc zero))) less = refl
    at (suc (suc (suc (suc i)))) less = absurd (omega arith)

    found : (i : ℕ) → i < 4 → get_or (numbers ++ next_four n) (length numbers + i) (n + i) ≡ n + i
    found i less = get_or-append-add numbers (next_four n) i (n + i) ∙ at i less

contains_first : (numbers more : List ℕ) (n : ℕ) → Contains numbers n → Contains (numbers ++ more) n
contains_first numbers more n (k, below, is) =
    (k, (omega (arith, length-append numbers more)), get_or_append_left numbers more n k below ∙ is)

pub hold_four : (standings : List Standing) (numbers : List ℕ) → HoldWaiting standings numbers →
    HoldWaiting (standings ++ four_waiting) (numbers ++ next_four (length standings))
hold_four standings numbers hold = record {
  rising = rw total (rising_four numbers (length standings) hold.rising);
  each = λ at waits. by_place at waits (cases_lt at (length standings));
}
  where
    total : length (standings ++ four_waiting) ≡ length standings + 4
    total = length-append standings four_waiting

    by_place : (at : ℕ) → standing_at (standings ++ four_waiting) at ≡ Waiting → (at < length standings) ⊎ (length standings ≤ at) →
        Contains (numbers ++ next_four (length standings)) at
    by_place at waits (inl below) =
        contains_first numbers (next_four (length standings)) at
        (hold.each at (sym (get_or_append_left standings four_waiting (Done Closed) at below) ∙ waits))
    by_place at waits (inr past) = by_more (cases_lt (at - length standings) 4)
      where
        index : length standings + (at - length standings) ≡ at
        index = omega arith

        by_more : (at - length standings < 4) ⊎ (4 ≤ at - length standings) → Contains (numbers ++ next_four (length standings)) at
        by_more (inl less) =
            subst (λ (k : ℕ). Contains (numbers ++ next_four (length standings)) k) index
            (contains_next numbers (length standings) (at - length standings) less)
        by_more (inr none) =
            let gone : standing_at (standings ++ four_waiting) at ≡ Done Closed =
            get_or_past (standings ++ four_waiting) at (Done Closed) (omega (arith, total)) in
            absurd (let e : Done Closed ≡ Waiting = sym gone ∙ waits in cc)

pub branches_split : (choices children : List (List Choice)) (standings : List Standing) (waiting : List ℕ) (count id who : ℕ) (what : Settled) →
    AreBranches choices standings waiting count → standing_at standings id ≡ Held who → length children ≡ length choices + 4 →
    AreBranches children (set (standings ++ four_waiting) id (Done what)) (waiting ++ next_four (length standings)) (count + 3)
branches_split choices children standings waiting count id who what branches held grown = record {
  alike = let same = branches.alike in omega (arith, set_length, total);
  stack = record {
    held = hold_set (standings ++ four_waiting) (waiting ++ next_four (length standings)) id (Done what)
        (hold_four standings waiting branches.stack.held) inside (λ e. cc);
    top = λ some. rw last_is (stands_other (standings ++ four_waiting) id (length standings + 3) (Done what) (λ e. omega (arith, below))
        ∙ last_waits);
  };
  counted = let counted = branches.counted in omega (arith, counted, more, changed, was);
}
  where
    total : length (standings ++ four_waiting) ≡ length standings + 4
    total = length-append standings four_waiting

    set_length : length (set (standings ++ four_waiting) id (Done what)) ≡ length (standings ++ four_waiting)
    set_length = length-set (standings ++ four_waiting) id (Done what)

    below : id < length standings
    below = waits_below standings id (Held who) held (λ e. cc)

    inside : id < length (standings ++ four_waiting)
    inside = omega (arith, total, below)

    last_waits : standing_at (standings ++ four_waiting) (length standings + 3) ≡ Waiting
    last_waits = get_or-append-add standings four_waiting 3 (Done Closed)

    last_is : slice_index (waiting ++ next_four (length standings)) (length (waiting ++ next_four (length standings)) - 1) ≡ length standings + 3
    last_is =
        let all = length-append waiting (next_four (length standings)) in
        let index : length (waiting ++ next_four (length standings)) - 1 ≡ length waiting + 3 = omega arith in
        rw index (get_or-append-add waiting (next_four (length standings)) 3 0)

    more : count_by is_open (standings ++ four_waiting) ≡ count_by is_open standings + 4
    more = sum_by-append counts_one standings four_waiting

    was : counts_one (standing_at (standings ++ four_waiting) id) ≡ 1
    was = rw (get_or_append_left standings four_waiting (Done Closed) id below, held) refl

    changed : count_by is_open (set (standings ++ four_waiting) id (Done what)) + counts_one (standing_at (standings ++ four_waiting) id)
        ≡ count_by is_open (standings ++ four_waiting) + 0
    changed = sum_by-set counts_one (standings ++ four_waiting) id (Done what) (Done Closed) inside

-- what all branches still owe is at most two entries for each open one
pub owed_open : (standings : List Standing) → owed_by standings ≤ 2 * count_by is_open standings
owed_open [] = omega arith
owed_open (standing ∷ standings) =
    let rest = owed_open standings in
    let sums = sum_by-cons owed standing standings in
    let counts = sum_by-cons counts_one standing standings in
    let one = one_owes standing in
    omega (arith, rest, sums, counts, one)
  where
    one_owes : (standing : Standing) → owed standing ≤ 2 * counts_one standing
    one_owes Waiting = omega arith
    one_owes (Held who) = omega arith
    one_owes (Done what) = omega arith

abbrev pub same_tables : List (List Choice) → List (List Choice) → List Standing → List Standing → Type 0
same_tables a b x y =
    let left : State = record { choices = a; standings = x } in
    let right : State = record { choices = b; standings = y } in left ≡ right

pub same_state : (a b : List (List Choice)) (x y : List Standing) → a ≡ b → x ≡ y → same_tables a b x y
same_state a b x y p q = cc
