-- How much work is left after an entry.
use Rattle.std.proofs.Common.{◌≡◌, ℕ, zero, suc, ◌+◌, ◌-◌, ◌*◌, ◌^◌, ◌<◌, ◌≤◌, List, [], ◌∷◌, ◌++◌, length, ◌⊎◌, inl, inr, subst, ap, refl, ◌∙◌, arith}
use Rattle.std.specs.Prelude.{slice_index_or, slice_set}
use Rattle.std.proofs.lemmas.List.{length-append, length-set, get_or-append_right}
use native.Mathlib.Nat.{pow-succ', one-le-pow}
use Rattle.compact_types.specs.declared.search.Choice.{Choice}
use Rattle.bars.specs.Solutions.{with_choice}
use Rattle.board.specs.declared.entries.Entry.{Entry}
use Rattle.board.specs.declared.entries.Entry.TheVariants as entries
use Rattle.board.specs.declared.entries.Settled.{Settled}
use Rattle.board.specs.declared.entries.Settled.TheVariants as settled
use Rattle.board.specs.declared.standings.Standing.{Standing}
use Rattle.board.specs.declared.standings.Standing.TheVariants.{Waiting, Held, Done}
use Rattle.board.specs.Histories.{branch_count, choices_of, standing_of, choices_opened, standings_opened, Fits, after, state_of}
use Rattle.board.specs.Works.{work_of, work_of_all, work_left}
use Rattle.board.proofs.HistoryLaws.{same_count}
use Rattle.board.proofs.OpenLaws.{open_inside, waiting_open, held_open}

-- one standing is replaced
work_set : (most : ℕ) (choices : List (List Choice)) (standings : List Standing) (id : ℕ) (standing : Standing) →
    length choices ≡ length standings → id < length standings →
    work_of_all most choices (slice_set standings id standing) + work_of most (slice_index_or choices id []) (slice_index_or standings id (Done settled.Closed))
    ≡ work_of_all most choices standings + work_of most (slice_index_or choices id []) standing
work_set most [] standings id standing same inside = absurd (omega (arith, same, inside))
work_set most (one ∷ choices) [] id standing same inside = absurd (omega (arith, inside))
work_set most (one ∷ choices) (stands ∷ standings) zero standing same inside = omega arith
work_set most (one ∷ choices) (stands ∷ standings) (suc id) standing same inside =
    let rest = work_set most choices standings id standing (omega (arith, same)) (omega (arith, inside)) in
    omega (arith, rest)

-- the work of two parts
work_append : (most : ℕ) (choices more : List (List Choice)) (standings opened : List Standing) → length choices ≡ length standings →
    work_of_all most (choices ++ more) (standings ++ opened) ≡ work_of_all most choices standings + work_of_all most more opened
work_append most [] more [] opened same = omega arith
work_append most [] more (stands ∷ standings) opened same = absurd (omega (arith, same))
work_append most (one ∷ choices) more [] opened same = absurd (omega (arith, same))
work_append most (one ∷ choices) more (stands ∷ standings) opened same =
    let rest = work_append most choices more standings opened (omega (arith, same)) in
    omega (arith, rest)

pub work_stays : (most : ℕ) (history : List Entry) (who id : ℕ) → Fits (state_of history) (entries.Claimed who id) →
    work_left most (after (state_of history) (entries.Claimed who id)) ≡ work_left most (state_of history)
work_stays most history who id fits =
    let state = state_of history in
    let set = work_set most state.choices state.standings id (Held who) (same_count history) (open_inside state id (waiting_open state id fits)) in
    let was : work_of most (choices_of state id) (standing_of state id) ≡ 5 ^ (most - length (choices_of state id)) = ap (work_of most (choices_of state id)) fits in
    let now : work_of most (choices_of state id) (Held who) ≡ 5 ^ (most - length (choices_of state id)) = refl in
    omega (arith, set, was, now)

-- the work of branches that are opened
opened_work : (most : ℕ) (parent : List Choice) (what : Settled) →
    (length (standings_opened what) ≡ 0 → ⊥) × (work_of_all most (choices_opened parent what) (standings_opened what) ≡ 4 * 5 ^ (most - (length parent + 1)))
    ⊎ (work_of_all most (choices_opened parent what) (standings_opened what) ≡ 0)
opened_work most parent (settled.Split first s t) = inl ((λ none. omega (arith, none)), omega (arith, child 0, child 1, child 2, child 3))
  where
    child : (side : ℕ) → work_of most (with_choice parent s t side) Waiting ≡ 5 ^ (most - (length parent + 1))
    child side = ap (λ (n : ℕ). 5 ^ (most - n)) (length-append parent (record { s = s; t = t; side = side } ∷ []))
opened_work most parent settled.Closed = inr refl
opened_work most parent settled.Improved = inr refl

-- the first branch that is opened has one choice more than its parent
first_child : (parent : List Choice) (what : Settled) → (length (standings_opened what) ≡ 0 → ⊥) → length (slice_index_or (choices_opened parent what) 0 []) ≡ length parent + 1
first_child parent (settled.Split first s t) some = length-append parent (record { s = s; t = t; side = 0 } ∷ [])
first_child parent settled.Closed some = absurd (some refl)
first_child parent settled.Improved some = absurd (some refl)

pub work_falls : (most : ℕ) (history : List Entry) (who id : ℕ) (what : Settled) → Fits (state_of history) (entries.Settled who id what) →
    ((child : ℕ) → child < branch_count (after (state_of history) (entries.Settled who id what)) →
    length (choices_of (after (state_of history) (entries.Settled who id what)) child) ≤ most) →
    work_left most (after (state_of history) (entries.Settled who id what)) < work_left most (state_of history)
work_falls most history who id what fits few = by_outcome (opened_work most (choices_of (state_of history) id) what)
  where
    set_length : length (slice_set (state_of history).standings id (Done what)) ≡ branch_count (state_of history)
    set_length = length-set (state_of history).standings id (Done what)

    same : length (state_of history).choices ≡ branch_count (state_of history)
    same = same_count history

    parts : work_left most (after (state_of history) (entries.Settled who id what))
        ≡ work_of_all most (state_of history).choices (slice_set (state_of history).standings id (Done what)) + work_of_all most (choices_opened (choices_of (state_of history) id) what) (standings_opened what)
    parts = work_append most (state_of history).choices (choices_opened (choices_of (state_of history) id) what) (slice_set (state_of history).standings id (Done what)) (standings_opened what) (omega (arith, same, set_length))

    set : work_of_all most (state_of history).choices (slice_set (state_of history).standings id (Done what)) + work_of most (choices_of (state_of history) id) (standing_of (state_of history) id)
        ≡ work_left most (state_of history) + work_of most (choices_of (state_of history) id) (Done what)
    set = work_set most (state_of history).choices (state_of history).standings id (Done what) same (open_inside (state_of history) id (held_open (state_of history) id who fits.0))

    was : work_of most (choices_of (state_of history) id) (standing_of (state_of history) id) ≡ 5 ^ (most - length (choices_of (state_of history) id))
    was = ap (work_of most (choices_of (state_of history) id)) fits.0

    now : work_of most (choices_of (state_of history) id) (Done what) ≡ 0
    now = refl

    by_outcome : (length (standings_opened what) ≡ 0 → ⊥) × (work_of_all most (choices_opened (choices_of (state_of history) id) what) (standings_opened what) ≡ 4 * 5 ^ (most - (length (choices_of (state_of history) id) + 1)))
        ⊎ (work_of_all most (choices_opened (choices_of (state_of history) id) what) (standings_opened what) ≡ 0) →
        work_left most (after (state_of history) (entries.Settled who id what)) < work_left most (state_of history)
    by_outcome (inr none) =
        let some : 1 ≤ 5 ^ (most - length (choices_of (state_of history) id)) = one-le-pow _ 5 (omega arith) in
        omega (arith, parts, set, was, now, none, some)
    by_outcome (inl four) =
        let all_length = length-append (slice_set (state_of history).standings id (Done what)) (standings_opened what) in
        let positive : 0 < length (standings_opened what) = some_length (length (standings_opened what)) four.0 in
        let child_at : choices_of (after (state_of history) (entries.Settled who id what)) (branch_count (state_of history)) ≡ slice_index_or (choices_opened (choices_of (state_of history) id) what) (branch_count (state_of history) - branch_count (state_of history)) [] =
        get_or-append_right (state_of history).choices (choices_opened (choices_of (state_of history) id) what) (branch_count (state_of history)) (branch_count (state_of history)) [] same (omega arith) in
        let zero_is : branch_count (state_of history) - branch_count (state_of history) ≡ 0 = omega arith in
        let child : length (choices_of (after (state_of history) (entries.Settled who id what)) (branch_count (state_of history))) ≡ length (choices_of (state_of history) id) + 1 =
        ap length (child_at ∙ ap (λ (k : ℕ). slice_index_or (choices_opened (choices_of (state_of history) id) what) k []) zero_is) ∙ first_child (choices_of (state_of history) id) what four.0 in
        let room : length (choices_of (state_of history) id) + 1 ≤ most =
        subst (λ (n : ℕ). n ≤ most) child (few (branch_count (state_of history)) (omega (arith, all_length, set_length, positive))) in
        let less : most - length (choices_of (state_of history) id) ≡ suc (most - (length (choices_of (state_of history) id) + 1)) = omega (arith, room) in
        let power : 5 ^ (most - length (choices_of (state_of history) id)) ≡ 5 * 5 ^ (most - (length (choices_of (state_of history) id) + 1)) =
        ap (λ (n : ℕ). 5 ^ n) less ∙ pow-succ' 5 (most - (length (choices_of (state_of history) id) + 1)) in
        let some : 1 ≤ 5 ^ (most - (length (choices_of (state_of history) id) + 1)) = one-le-pow _ 5 (omega arith) in
        omega (arith, parts, set, was, now, four.1, power, some)
      where
        some_length : (n : ℕ) → (n ≡ 0 → ⊥) → 0 < n
        some_length zero some = absurd (some refl)
        some_length (suc n) some = omega arith
