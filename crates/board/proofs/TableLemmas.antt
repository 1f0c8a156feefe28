-- What a board keeps, after each of its calls.
use Rattle.std.proofs.Common.{◌≡◌, ◌↔◌, ℕ, true, false, ◌+◌, ◌-◌, ◌<◌, ◌≤◌, List, [], ◌∷◌, ◌++◌, length, set, Option, Some, None, IsSome, slice_index_or, refl, sym, ap, ◌∙◌, inl, inr, arith}
use Rattle.std.proofs.lemmas.List.Sums.{sum_by-set, sum_by-append}
use Rattle.compact_types.specs.declared.places.Key.{Key}
use Rattle.compact_types.specs.declared.plan.Shape.{Shape}
use Rattle.compact_types.specs.declared.search.Choice.{Choice}
use Rattle.compact_types.specs.Bests.{Objective}
use Rattle.bars.specs.Solutions.{IsSound}
use Rattle.shape_graphs.specs.declared.measure.Verdict.{Verdict}
use Rattle.shape_graphs.specs.declared.measure.Verdict.TheVariants.{Cyclic, Above, Least}
use Rattle.shape_graphs.specs.Measures.{MatchVerdict}
use Rattle.board.specs.declared.entries.Entry.{Entry}
use Rattle.board.specs.declared.entries.Entry.TheVariants as entries
use Rattle.board.specs.declared.entries.Settled.{Settled}
use Rattle.board.specs.declared.entries.Settled.TheVariants as outcomes
use Rattle.board.specs.declared.standings.Standing.{Standing}
use Rattle.board.specs.declared.standings.Standing.TheVariants.{Waiting, Held, Done}
use Rattle.board.specs.Boards.{BoardView, IsCaller, IsOutcome, after_claim, board_state, enlisted, incumbent_after, opened_board, verdict_of, verdicts_opened}
use Rattle.board.specs.Facts.{AreVerdictsKept, IsDrawnKey, IsKeptAt}
use Rattle.board.specs.Histories.{State, IsHeldBy, IsSettled, IsWaiting, after, branch_count, opened, standing_of, standings_opened}
use Rattle.board.specs.inner.Tables.{AreBoardTables, IsSettling, owed, owed_by}
use Rattle.board.proofs.KeptFacts.{facts_opened, facts_enlisted, facts_claimed}
use Rattle.board.proofs.SettledFacts.{facts_settled}
use Rattle.board.proofs.HistoryLaws.{state_with}
use Rattle.board.proofs.StackLemmas.{waits_below}

-- what a branch owes falls by what its entry pays
owed_set : (standings : List Standing) (id : ℕ) (was now : Standing) → slice_index_or standings id (Done outcomes.Closed) ≡ was →
    (was ≡ Done outcomes.Closed → ⊥) → owed_by (set standings id now) + owed was ≡ owed_by standings + owed now
owed_set standings id was now stands other =
    let below = waits_below standings id was stands other in
    rw (← stands) (sum_by-set owed standings id now (Done outcomes.Closed) below)

pub kept_opened : {P : Type 0} (objective : Objective) (Backs : Shape → List Choice → P → Verdict P → Type 0)
    (shape : Shape) (key : Key) (room : ℕ) → IsSound shape → IsDrawnKey objective shape key → 2 ≤ room →
    AreBoardTables objective Backs (opened_board shape key) opened room
kept_opened objective Backs shape key room sound drawn enough = record {
  state = refl;
  room_left = enough;
  facts = facts_opened objective Backs shape key sound drawn;
}

pub kept_roomier : {P : Type 0} (objective : Objective) (Backs : Shape → List Choice → P → Verdict P → Type 0)
    (board : BoardView P) (branches : State) (room more : ℕ) → AreBoardTables objective Backs board branches room → room ≤ more →
    AreBoardTables objective Backs board branches more
kept_roomier objective Backs board branches room more kept less = record {
  state = kept.state;
  room_left = let enough = kept.room_left in omega arith;
  facts = kept.facts;
}

pub kept_enlisted : {P : Type 0} (objective : Objective) (Backs : Shape → List Choice → P → Verdict P → Type 0)
    (board : BoardView P) (branches : State) (room : ℕ) → AreBoardTables objective Backs board branches room →
    AreBoardTables objective Backs (enlisted board) branches room
kept_enlisted objective Backs board branches room kept = record {
  state = kept.state;
  room_left = kept.room_left;
  facts = facts_enlisted objective Backs board kept.facts;
}

pub room_for_claim : {P : Type 0} (objective : Objective) (Backs : Shape → List Choice → P → Verdict P → Type 0)
    (board : BoardView P) (branches : State) (room id : ℕ) → AreBoardTables objective Backs board branches room →
    IsWaiting branches id → 0 < room
room_for_claim objective Backs board branches room id kept waits =
    let pays = owed_set branches.standings id Waiting (Held 0) waits (λ e. cc) in
    let enough = kept.room_left in
    omega (arith, pays, enough)

pub kept_claimed : {P : Type 0} (objective : Objective) (Backs : Shape → List Choice → P → Verdict P → Type 0)
    (board : BoardView P) (branches : State) (room who id : ℕ) → AreBoardTables objective Backs board branches room →
    IsCaller board.given who → IsWaiting (board_state board) id →
    AreBoardTables objective Backs (after_claim board who id) (after branches (entries.Claimed who id)) (room - 1)
kept_claimed objective Backs board branches room who id kept caller waits = record {
  state = ap (λ s. after s (entries.Claimed who id)) kept.state ∙ sym (state_with board.entries (entries.Claimed who id));
  room_left =
      let waits_here : IsWaiting branches id = rw kept.state waits in
      let pays = owed_set branches.standings id Waiting (Held who) waits_here (λ e. cc) in
      let enough = kept.room_left in
      omega (arith, pays, enough);
  facts = facts_claimed objective Backs board who id kept.facts caller waits;
}

pub room_for_settle : {P : Type 0} (objective : Objective) (Backs : Shape → List Choice → P → Verdict P → Type 0)
    (board : BoardView P) (branches : State) (room who id : ℕ) → AreBoardTables objective Backs board branches room →
    IsHeldBy branches id who → 0 < room
room_for_settle objective Backs board branches room who id kept held =
    let pays = owed_set branches.standings id (Held who) (Done outcomes.Closed) held (λ e. cc) in
    let enough = kept.room_left in
    omega (arith, pays, enough)

pub kept_settled : {P : Type 0} (objective : Objective) (Backs : Shape → List Choice → P → Verdict P → Type 0)
    (board : BoardView P) (branches : State) (room who id : ℕ) (verdict : Verdict P) (what : Settled)
    (incumbent : Key) (verdicts : List (Option (Verdict P))) →
    AreBoardTables objective Backs board branches room → IsSettling objective Backs board who id verdict what →
    owed_by branches.standings + owed_by (standings_opened what) ≤ room →
    incumbent ≡ incumbent_after board.incumbent verdict what →
    verdicts ≡ set board.verdicts id (Some verdict) ++ verdicts_opened what →
    AreBoardTables objective Backs (record {
      shape = board.shape;
      entries = board.entries ++ entries.Settled who id what ∷ [];
      given = board.given;
      incumbent = incumbent;
      verdicts = verdicts;
    }) (after branches (entries.Settled who id what)) (room - 1)
kept_settled objective Backs board branches room who id verdict what incumbent verdicts kept settling enough best each =
    rw (best, each) (record {
      state = ap (λ s. after s (entries.Settled who id what)) kept.state ∙ sym (state_with board.entries (entries.Settled who id what));
      room_left =
          let held : IsHeldBy branches id who = rw kept.state settling.held in
          let pays = owed_set branches.standings id (Held who) (Done what) held (λ e. cc) in
          let sums = sum_by-append owed (set branches.standings id (Done what)) (standings_opened what) in
          omega (arith, pays, sums, enough);
      facts = facts_settled objective Backs board who id verdict settling.pair what kept.facts settling.caller
          settling.held settling.sound settling.pair_for settling.outcome;
    })

pub closed_keeps : {P : Type 0} (incumbent : Key) (verdict : Verdict P) → incumbent ≡ incumbent_after incumbent verdict outcomes.Closed
closed_keeps incumbent (Cyclic axis cycle) = refl
closed_keeps incumbent (Above bound stop proof) = refl
closed_keeps incumbent (Least key proof) = refl

pub split_keeps : {P : Type 0} (incumbent : Key) (verdict : Verdict P) (first s t : ℕ) →
    incumbent ≡ incumbent_after incumbent verdict (outcomes.Split first s t)
split_keeps incumbent (Cyclic axis cycle) first s t = refl
split_keeps incumbent (Above bound stop proof) first s t = refl
split_keeps incumbent (Least key proof) first s t = refl

-- a split numbers its children from the number of branches
pub settling_first : {P : Type 0} (objective : Objective) (Backs : Shape → List Choice → P → Verdict P → Type 0)
    (board : BoardView P) (who id : ℕ) (verdict : Verdict P) (first s t : ℕ) →
    IsSettling objective Backs board who id verdict (outcomes.Split first s t) → first ≡ branch_count (board_state board)
settling_first {P = P} objective Backs board who id verdict first s t settling = by_verdict verdict settling.pair settling.outcome
  where
    by_verdict : (verdict : Verdict P) (pair : Option (ℕ × ℕ)) → IsOutcome board verdict pair (outcomes.Split first s t) →
        first ≡ branch_count (board_state board)
    by_verdict (Cyclic axis cycle) pair outcome = cc
    by_verdict (Above bound stop proof) pair outcome = cc
    by_verdict (Least key proof) None (inl before) = let e = before.1 in cc
    by_verdict (Least key proof) None (inr after) = let e = after.1 in cc
    by_verdict (Least key proof) (Some pair) (inl before) = let e = before.1 in cc
    by_verdict (Least key proof) (Some pair) (inr after) = let e = after.1 in cc

-- a least key alone improves the incumbent
pub improved_by_least : {P : Type 0} (objective : Objective) (Backs : Shape → List Choice → P → Verdict P → Type 0)
    (board : BoardView P) (who id : ℕ) (verdict : Verdict P) → IsSettling objective Backs board who id verdict outcomes.Improved →
    MatchVerdict verdict ⊥ ⊥ (Unit {0})
improved_by_least {P = P} objective Backs board who id verdict settling = by_verdict verdict settling.pair settling.outcome
  where
    by_verdict : (verdict : Verdict P) (pair : Option (ℕ × ℕ)) → IsOutcome board verdict pair outcomes.Improved → MatchVerdict verdict ⊥ ⊥ (Unit {0})
    by_verdict (Cyclic axis cycle) pair outcome = cc
    by_verdict (Above bound stop proof) pair outcome = cc
    by_verdict (Least key proof) pair outcome = tt

-- a verdict is kept exactly if the branch is settled
pub verdict_settled : {P : Type 0} (objective : Objective) (Backs : Shape → List Choice → P → Verdict P → Type 0)
    (board : BoardView P) (id : ℕ) (found : Option (Verdict P)) → AreVerdictsKept objective Backs board →
    id < length board.verdicts → verdict_of board id ≡ found → IsSome found ↔ IsSettled (board_state board) id
verdict_settled {P = P} objective Backs board id found kept inside is = by_standing (standing_of (board_state board) id) refl (kept.each id below)
  where
    below : id < branch_count (board_state board)
    below = let places = kept.places in omega (arith, inside, places)

    by_standing : (standing : Standing) → standing_of (board_state board) id ≡ standing →
        IsKeptAt objective Backs board id standing → IsSome found ↔ IsSettled (board_state board) id
    by_standing Waiting stands none =
        (λ some. absurd (none_some (sym is ∙ none) some), λ settled. absurd (let done = settled.outcome.done in cc))
      where
        none_some : {found : Option (Verdict P)} → found ≡ None → IsSome found → ⊥
        none_some e some = let h : false ≡ true = rw e at some in cc
    by_standing (Held who) stands none =
        (λ some. absurd (none_some (sym is ∙ none) some), λ settled. absurd (let done = settled.outcome.done in cc))
      where
        none_some : {found : Option (Verdict P)} → found ≡ None → IsSome found → ⊥
        none_some e some = let h : false ≡ true = rw e at some in cc
    by_standing (Done what) stands settled =
        (λ some. record { what = what; outcome = record { below = below; done = stands } }, λ done. rw (sym is ∙ settled.kept) refl)

-- boards with the same parts
abbrev pub same_boards : {P : Type 0} → Shape → ℕ → List Entry → List Entry → Key → Key →
    List (Option (Verdict P)) → List (Option (Verdict P)) → Type 0
same_boards {P} shape given entries more incumbent best verdicts each =
    let left : BoardView P = record { shape = shape; entries = entries; given = given; incumbent = incumbent; verdicts = verdicts } in
    let right : BoardView P = record { shape = shape; entries = more; given = given; incumbent = best; verdicts = each } in
    left ≡ right

pub same_board : {P : Type 0} (shape : Shape) (given : ℕ) (entries more : List Entry) (incumbent best : Key)
    (verdicts each : List (Option (Verdict P))) → entries ≡ more → incumbent ≡ best → verdicts ≡ each →
    same_boards shape given entries more incumbent best verdicts each
same_board shape given entries more incumbent best verdicts each p q r = cc
