-- The facts of a board are kept where a branch is settled.
use Rattle.std.proofs.Common.{◌≡◌, ℕ, ◌+◌, ◌-◌, ◌<◌, ◌≤◌, List, [], length, slice_index_or, slice_set, Option, None, Some, ◌⊎◌, inl, inr, refl, ap, sym, ◌∙◌, subst, arith, length-append}
use Rattle.std.proofs.lemmas.Bool.{cases_eq, cases_lt}
use Rattle.std.proofs.lemmas.List.{length-set, get_or_append_left, get_or-append_right, get_or-set_same, get_or-set_other}
use Rattle.compact_types.specs.declared.places.Key.{Key}
use Rattle.compact_types.specs.declared.places.Places.{Places}
use Rattle.compact_types.specs.declared.plan.Shape.{Shape}
use Rattle.compact_types.specs.declared.search.Choice.{Choice}
use Rattle.compact_types.specs.Bests.{Objective, key_of, worth_of}
use Rattle.compact_types.specs.Drawings.{IsDrawing, IsFromZero}
use Rattle.compact_types.specs.Orders.{IsBefore}
use Rattle.compact_types.proofs.Laws.{before_trans, not_before_itself}
use Rattle.bars.specs.Solutions.{Solves}
use Rattle.shape_graphs.specs.declared.measure.Verdict.{Verdict}
use Rattle.shape_graphs.specs.declared.measure.Verdict.TheVariants.{Cyclic, Above, Least}
use Rattle.shape_graphs.specs.Measures.{IsLeastKey}
use Rattle.shape_graphs.proofs.Laws.{not_before_least}
use Rattle.separation.specs.Branching.{IsBranchPair}
use Rattle.board.specs.declared.entries.Entry.TheVariants as entries
use Rattle.board.specs.declared.entries.Settled.{Settled}
use Rattle.board.specs.declared.entries.Settled.TheVariants as settled
use Rattle.board.specs.declared.standings.Standing.{Standing}
use Rattle.board.specs.declared.standings.Standing.TheVariants.{Waiting}
use Rattle.board.specs.Boards.{BoardView, IsCaller, IsOutcome, after_settle, board_state, incumbent_after, outcome_before, verdict_of, verdicts_opened}
use Rattle.board.specs.Facts.{AreFacts, AreSound, IsCovered, IsDrawnKey, IsKeptAt, IsNotUndercut, IsSettledBy, LeadsTo, SplitsAtBranchPair}
use Rattle.board.specs.Histories.{State, after, branch_count, choices_of, choices_opened, standing_of, standings_opened, IsHeldBy, NumbersChildren}
use Rattle.board.specs.Verdicts.{IsPairAt, IsPairFor, IsSoundVerdict}
use Rattle.board.proofs.AfterLemmas.{choices_before, choices_behind, held_open, open_below, settled_count, standing_behind, standing_other, standing_same}
use Rattle.board.proofs.ChildChoices.{children_sound}
use Rattle.board.proofs.CoveredDrawings.{IsHandled, covered_settled, in_child, none_above, none_before, none_where_cyclic}
use Rattle.board.proofs.HistoryLaws.{legal_with, same_count, state_with}
use Rattle.board.proofs.KeptFacts.{callers_with, kept_still, none_opened, opened_wait, places_alike}

module _ {P : Type 0} (objective : Objective) (Backs : Shape → List Choice → P → Verdict P → Type 0) where
  -- what has to be shown of an outcome, so that the facts are kept
  pub record IsFine (board : BoardView P) (who id : ℕ) (verdict : Verdict P) (what : Settled) : Type 0 where
    pub numbers : NumbersChildren (board_state board) what
    pub drawn : IsDrawnKey objective board.shape (incumbent_after board.incumbent verdict what)
    pub fewer : (key : Key) → IsBefore key (incumbent_after board.incumbent verdict what) → IsBefore key board.incumbent
    pub children : (k : ℕ) → k < length (standings_opened what) →
        AreSound board.shape (slice_index_or (choices_opened (choices_of (board_state board) id) what) k [])
    pub handled : (below : id < branch_count (board_state board)) →
        IsHandled objective board.shape (board_state board) who id below (same_count board.entries) what (incumbent_after board.incumbent verdict what)
    pub leads : LeadsTo (incumbent_after board.incumbent verdict what) verdict what
    pub splits : SplitsAtBranchPair board.shape (choices_of (board_state board) id) verdict what

  module _ (board : BoardView P) (who id : ℕ) (verdict : Verdict P) (what : Settled)
      (facts : AreFacts objective Backs board) (caller : IsCaller board.given who) (held : IsHeldBy (board_state board) id who)
      (sound : IsSoundVerdict objective Backs board.shape (choices_of (board_state board) id) verdict)
      (fine : IsFine board who id verdict what) where
    abbrev state : State
    state = board_state board

    abbrev next : State
    next = after (board_state board) (entries.Settled who id what)

    abbrev new : BoardView P
    new = after_settle board who id verdict what

    abbrev step : board_state new ≡ next
    step = state_with board.entries (entries.Settled who id what)

    abbrev below : id < branch_count state
    below = open_below state id (held_open state id who held)

    abbrev same : length state.choices ≡ branch_count state
    same = same_count board.entries

    -- how many branches there are now
    count : branch_count next ≡ branch_count state + length (standings_opened what)
    count = settled_count state same who id what below

    -- the choices of the branches
    choices_sound : (j : ℕ) → j < branch_count next → AreSound board.shape (choices_of next j)
    choices_sound j inside = by_order (cases_lt j (branch_count state))
      where
        by_order : (j < branch_count state) ⊎ (branch_count state ≤ j) → AreSound board.shape (choices_of next j)
        by_order (inl before) =
            subst (λ (l : List Choice). AreSound board.shape l) (sym (choices_before state same who id what below j before)) (facts.choices j before)
        by_order (inr behind) =
            subst (λ (l : List Choice). AreSound board.shape l) (sym (choices_behind state same who id what below j behind))
            (fine.children (j - branch_count state) (omega (arith, inside, count, behind)))

    -- the verdicts of the branches
    abbrev verdicts_set : List (Option (Verdict P))
    verdicts_set = slice_set board.verdicts id (Some verdict)

    verdict_same : verdict_of new id ≡ Some verdict
    verdict_same =
        get_or_append_left verdicts_set (verdicts_opened what) None id (omega (arith, below, facts.kept.places, length-set board.verdicts id (Some verdict)))
        ∙ get_or-set_same board.verdicts id (Some verdict) None (omega (arith, below, facts.kept.places))

    verdict_other : (j : ℕ) → j < branch_count state → (j ≡ id → ⊥) → verdict_of new j ≡ verdict_of board j
    verdict_other j inside other =
        get_or_append_left verdicts_set (verdicts_opened what) None j (omega (arith, inside, facts.kept.places, length-set board.verdicts id (Some verdict)))
        ∙ get_or-set_other board.verdicts id j (Some verdict) None other

    verdict_behind : (j : ℕ) → branch_count state ≤ j → verdict_of new j ≡ None
    verdict_behind j behind =
        get_or-append_right verdicts_set (verdicts_opened what) (branch_count state) j None
        (length-set board.verdicts id (Some verdict) ∙ facts.kept.places) behind
        ∙ none_opened what (j - branch_count state)

    -- the branches that there were have the choices that they had
    choices_still : (j : ℕ) → j < branch_count state → choices_of (board_state new) j ≡ choices_of state j
    choices_still j inside = ap (λ (s : State). choices_of s j) step ∙ choices_before state same who id what below j inside

    -- the settled branch keeps its verdict, and each other what it kept
    kept_here : IsSettledBy objective Backs new id what
    kept_here = record {
      verdict = verdict;
      kept = verdict_same;
      sound = subst (λ (l : List Choice). IsSoundVerdict objective Backs board.shape l verdict) (sym (choices_still id below)) sound;
      leads = fine.leads;
      splits = subst (λ (l : List Choice). SplitsAtBranchPair board.shape l verdict what) (sym (choices_still id below)) fine.splits;
    }

    kept_each : (j : ℕ) → j < branch_count next → IsKeptAt objective Backs new j (standing_of next j)
    kept_each j inside = by_order (cases_lt j (branch_count state)) (cases_eq j id)
      where
        by_order : (j < branch_count state) ⊎ (branch_count state ≤ j) → (j ≡ id) ⊎ (j ≡ id → ⊥) → IsKeptAt objective Backs new j (standing_of next j)
        by_order (inl before) (inl is) =
            subst (λ (i : ℕ). IsKeptAt objective Backs new i (standing_of next i)) (sym is)
            (subst (λ (standing : Standing). IsKeptAt objective Backs new id standing) (sym (standing_same state same who id what below)) kept_here)
        by_order (inl before) (inr other) =
            subst (λ (standing : Standing). IsKeptAt objective Backs new j standing) (sym (standing_other state same who id what below j before other))
            (kept_still objective Backs board new j refl fine.fewer (choices_still j before) (verdict_other j before other) _ (facts.kept.each j before))
        by_order (inr behind) either =
            let at : standing_of next j ≡ Waiting =
            standing_behind state same who id what below j behind
            ∙ opened_wait what (j - branch_count state) (omega (arith, inside, count, behind)) in
            subst (λ (standing : Standing). IsKeptAt objective Backs new j standing) (sym at) (verdict_behind j behind)

    -- a place for the verdict of each branch
    places : length new.verdicts ≡ branch_count next
    places =
        let both = length-append verdicts_set (verdicts_opened what) in
        let set = length-set board.verdicts id (Some verdict) in
        let alike = places_alike P what in
        let before = facts.kept.places in
        omega (arith, both, set, alike, before, count)

    pub facts_from_fine : AreFacts objective Backs new
    facts_from_fine = record {
      shape = facts.shape;
      legal = legal_with board.entries (entries.Settled who id what) facts.legal (held, fine.numbers);
      callers = callers_with board.given board.entries (entries.Settled who id what) facts.callers caller;
      choices = subst (λ (s : State). (j : ℕ) → j < branch_count s → AreSound board.shape (choices_of s j)) (sym step) choices_sound;
      incumbent = fine.drawn;
      covered = subst (λ (s : State). IsCovered objective board.shape s new.incumbent) (sym step)
          (covered_settled objective board.shape state who id below same what board.incumbent new.incumbent facts.covered fine.fewer (fine.handled below));
      kept = record {
        places = places ∙ sym (ap branch_count step);
        each = subst (λ (s : State). (j : ℕ) → j < branch_count s → IsKeptAt objective Backs new j (standing_of s j)) (sym step) kept_each;
      };
    }

  module _ (board : BoardView P) (who id : ℕ) (facts : AreFacts objective Backs board) (held : IsHeldBy (board_state board) id who) where
    abbrev parent : List Choice
    parent = choices_of (board_state board) id

    abbrev inside : id < branch_count (board_state board)
    inside = open_below (board_state board) id (held_open (board_state board) id who held)

    -- a verdict that closes the branch, whose incumbent stays
    fine_closed : (verdict : Verdict P) → incumbent_after board.incumbent verdict settled.Closed ≡ board.incumbent →
        LeadsTo board.incumbent verdict settled.Closed →
        ((places : Places) → IsFromZero places → IsBefore (key_of objective board.shape places) board.incumbent →
        IsNotUndercut objective board.shape (worth_of objective board.shape places) → Solves board.shape parent places → ⊥) →
        IsFine board who id verdict settled.Closed
    fine_closed verdict stays leads none = record {
      numbers = tt;
      drawn = subst (λ (key : Key). IsDrawnKey objective board.shape key) (sym stays) facts.incumbent;
      fewer = λ key comes. subst (λ (l : Key). IsBefore key l) stays comes;
      children = λ k below. absurd (omega (arith, below));
      handled = λ below places drawing from_zero comes least solves.
          absurd (none places from_zero (subst (λ (l : Key). IsBefore (key_of objective board.shape places) l) stays comes) least solves);
      leads = subst (λ (key : Key). LeadsTo key verdict settled.Closed) (sym stays) leads;
      splits = tt;
    }

    -- the least key of the branch is that of a drawing, and comes before the incumbent
    fine_improved : (key : Key) (proof : P) → IsLeastKey objective board.shape parent key → IsBefore key board.incumbent →
        IsDrawing board.shape key.places → IsFine board who id (Least key proof) settled.Improved
    fine_improved key proof least before drawing = record {
      numbers = tt;
      drawn = record { drawing = drawing; from_zero = least.from_zero; worth = least.worth };
      fewer = λ other comes. before_trans other key board.incumbent comes before;
      children = λ k below. absurd (omega (arith, below));
      handled = λ below places drawn from_zero comes undercut solves.
          absurd (not_before_least objective board.shape parent key places least solves from_zero comes);
      leads = inr (λ comes. not_before_itself key comes);
      splits = tt;
    }

    -- the branch is split at the branch pair of its least key
    fine_split : (key : Key) (proof : P) (s t : ℕ) → IsLeastKey objective board.shape parent key → IsBranchPair board.shape parent key.places s t →
        IsFine board who id (Least key proof) (settled.Split (branch_count (board_state board)) s t)
    fine_split key proof s t least branch = record {
      numbers = refl;
      drawn = facts.incumbent;
      fewer = λ other comes. comes;
      children = children_sound board.shape parent facts.shape (facts.choices id inside) key.places least.solves s t branch.pair branch.share;
      handled = λ below places drawing from_zero comes undercut solves.
          in_child objective board.shape (board_state board) who id below (same_count board.entries)
          (branch_count (board_state board)) s t branch.pair places drawing solves;
      leads = inl tt;
      splits = branch;
    }

    -- a least key before the incumbent
    fine_before : (key : Key) (proof : P) (pair : Option (ℕ × ℕ)) → IsLeastKey objective board.shape parent key → IsBefore key board.incumbent →
        IsPairAt board.shape parent board.incumbent key pair →
        IsFine board who id (Least key proof) (outcome_before (branch_count (board_state board)) pair)
    fine_before key proof None least before at = fine_improved key proof least before (at.none.0 refl)
    fine_before key proof (Some (s, t)) least before at = fine_split key proof s t least (at.first s t refl before)

    -- each outcome that the table allows is fine
    fine_outcome : (verdict : Verdict P) (pair : Option (ℕ × ℕ)) (what : Settled) → IsSoundVerdict objective Backs board.shape parent verdict →
        IsPairFor board.shape parent board.incumbent verdict pair → IsOutcome board verdict pair what → IsFine board who id verdict what
    fine_outcome (Cyclic axis cycle) pair what sound at is =
        subst (λ (w : Settled). IsFine board who id (Cyclic axis cycle) w) (sym is)
        (fine_closed (Cyclic axis cycle) refl refl
        (λ places from_zero comes least solves. none_where_cyclic board.shape parent axis cycle.arcs facts.shape.drawable (facts.choices id inside).fit sound.right places solves))
    fine_outcome (Above bound stop proof) pair what sound at is =
        subst (λ (w : Settled). IsFine board who id (Above bound stop proof) w) (sym is)
        (fine_closed (Above bound stop proof) refl refl
        (λ places from_zero comes least solves. none_above objective board.shape parent bound stop sound.right sound.attained places least solves))
    fine_outcome (Least key proof) pair what sound at (inl (before, is)) =
        subst (λ (w : Settled). IsFine board who id (Least key proof) w) (sym is)
        (fine_before key proof pair sound.right.least before at)
    fine_outcome (Least key proof) pair what sound at (inr (not_before, is)) =
        subst (λ (w : Settled). IsFine board who id (Least key proof) w) (sym is)
        (fine_closed (Least key proof) refl (inr not_before)
        (λ places from_zero comes least solves. none_before objective board.shape parent key board.incumbent sound.right.least facts.incumbent not_before places from_zero comes solves))

  pub facts_settled : (board : BoardView P) (who id : ℕ) (verdict : Verdict P) (pair : Option (ℕ × ℕ)) (what : Settled) →
      AreFacts objective Backs board → IsCaller board.given who → IsHeldBy (board_state board) id who →
      IsSoundVerdict objective Backs board.shape (choices_of (board_state board) id) verdict →
      IsPairFor board.shape (choices_of (board_state board) id) board.incumbent verdict pair → IsOutcome board verdict pair what →
      AreFacts objective Backs (after_settle board who id verdict what)
  facts_settled board who id verdict pair what facts caller held sound at is =
      facts_from_fine board who id verdict what facts caller held sound (fine_outcome board who id facts held verdict pair what sound at is)
