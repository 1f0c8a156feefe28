-- What a board without an open branch keeps of a branch.
use Rattle.std.proofs.Common.{◌≡◌, ℕ, ◌<◌, Bool, false, List, [], ◌∷◌, ◌++◌, inl, inr, refl, ap, sym, ◌∙◌, subst}
use Rattle.std.specs.Prelude.{◌↔◌, IsTrue, Some}
use Rattle.std.proofs.lemmas.Bool.{iff_false}
use Rattle.compact_types.specs.declared.places.Key.{Key}
use Rattle.compact_types.specs.declared.search.Flows.{Flows}
use Rattle.compact_types.specs.Bests.Objective.{total_length}
use Rattle.shape_graphs.specs.declared.measure.Verdict.{Verdict}
use Rattle.shape_graphs.specs.declared.measure.Verdict.TheVariants.{Cyclic, Above, Least}
use Rattle.shape_graphs.specs.Backings.{DoBack}
use Rattle.board.specs.declared.entries.Settled.{Settled}
use Rattle.board.specs.declared.entries.Settled.TheVariants.{Split, Closed, Improved}
use Rattle.board.specs.declared.standings.Standing.{Standing}
use Rattle.board.specs.declared.standings.Standing.TheVariants.{Done}
use Rattle.board.specs.Boards.{BoardView, board_state, verdict_of}
use Rattle.board.specs.Facts.{HasBranchPair, IsKeptAt, IsSettledBy, IsSplit, LeadsTo}
use Rattle.board.specs.Histories.{IsSettled, branch_count, choices_of, standing_of}
use Rattle.board.specs.Verdicts.{IsSoundVerdict}
use Rattle.board.proofs.Laws.{all_settled, none_open_is_best}
use Rattle.cert_text.specs.declared.tree.CertNode.{CertNode}
use Rattle.cert_text.specs.Trims.{AreEntriesOf, IsSplitStill}
use Rattle.cert_text.specs.inner.Outlines.{BeginsCertificate, ComesFirst, HasFewAmounts, HasFirstKey, HasPointsOf, IsFurther, closing_of}
use Rattle.cert_text.proofs.ClosingLemmas.{closing_opens, closing_right, verdict_few, verdict_points}
use Rattle.cert_text.proofs.OutlineLemmas.{below, closed_further, few}

-- a least key before the incumbent leads to a split alone
split_where_first : (incumbent : Key) (verdict : Verdict Flows) (what : Settled) → LeadsTo incumbent verdict what → ComesFirst incumbent verdict → IsSplit what
split_where_first incumbent (Cyclic axis cycle) what leads first = absurd first
split_where_first incumbent (Above bound stop proof) what leads first = absurd first
split_where_first incumbent (Least key proof) what (inl is) first = is
split_where_first incumbent (Least key proof) what (inr late) first = absurd (late first)

not_other : (what : Settled) → IsSplit what → ((first s t : ℕ) → what ≡ Split first s t → ⊥) → ⊥
not_other (Split first s t) is none = none first s t (λ i. Split first s t)
not_other Closed is none = is
not_other Improved is none = is

-- the entry that closes a branch whose key is not before the incumbent is the branch's
closing_entry : (board : BoardView Flows) (id : ℕ) (verdict : Verdict Flows) → verdict_of board id ≡ Some verdict →
    (ComesFirst board.incumbent verdict → ⊥) → (ids : List ℕ) (rest : List CertNode) → AreEntriesOf board ids rest →
    AreEntriesOf board (id ∷ ids) (closing_of verdict ∷ rest)
closing_entry board id (Cyclic axis cycle) is late ids rest entries =
    (record { verdict = Cyclic axis cycle; kept = is; closes = refl }, entries)
closing_entry board id (Above bound stop proof) is late ids rest entries =
    (record { verdict = Above bound stop proof; kept = is; closes = refl }, entries)
closing_entry board id (Least key proof) is late ids rest entries =
    (record { verdict = Least key proof; kept = is; closes = (late, refl) }, entries)

-- a branch that was split, and whose key comes before the incumbent, is split still
still_split : (board : BoardView Flows) (id first s t : ℕ) → standing_of (board_state board) id ≡ Done (Split first s t) →
    (verdict : Verdict Flows) → verdict_of board id ≡ Some verdict → ComesFirst board.incumbent verdict →
    HasBranchPair board.shape (choices_of (board_state board) id) verdict s t → IsSplitStill board id first s t
still_split board id first s t done (Cyclic axis cycle) is before pair = absurd before
still_split board id first s t done (Above bound stop proof) is before pair = absurd before
still_split board id first s t done (Least key proof) is before pair =
    record { split = done; key = key; proof = proof; kept = is; before = before; pair = pair }

module _ (board : BoardView Flows) (nodes : List CertNode) (waiting : List ℕ) (id : ℕ) (begun : BeginsCertificate board nodes (waiting ++ id ∷ [])) where
  inside : id < branch_count (board_state board)
  inside = below board nodes waiting id begun

  pub settled : IsSettled (board_state board) id
  settled = all_settled (board_state board) begun.none_open id inside

  kept : (what : Settled) → standing_of (board_state board) id ≡ Done what → IsSettledBy total_length DoBack board id what
  kept what done = subst (λ (standing : Standing). IsKeptAt total_length DoBack board id standing) done (begun.facts.kept.each id inside)

  verdict_sound : (verdict : Verdict Flows) → verdict_of board id ≡ Some verdict →
      IsSoundVerdict total_length DoBack board.shape (choices_of (board_state board) id) verdict
  verdict_sound verdict is =
      let by = kept settled.what settled.outcome.done in
      let both : Some by.verdict ≡ Some verdict = sym by.kept ∙ is in
      let same : by.verdict ≡ verdict = cc in
      subst (λ (v : Verdict Flows). IsSoundVerdict total_length DoBack board.shape (choices_of (board_state board) id) v) same by.sound

  pub few_at : (verdict : Verdict Flows) → verdict_of board id ≡ Some verdict → HasFewAmounts verdict
  few_at verdict is =
      verdict_few board.shape (choices_of (board_state board) id) begun.facts.shape (begun.facts.choices id inside).fit verdict (verdict_sound verdict is)

  pub points_at : (verdict : Verdict Flows) → verdict_of board id ≡ Some verdict → HasPointsOf board.incumbent verdict
  points_at verdict is =
      verdict_points board.shape (choices_of (board_state board) id) begun.facts.shape (begun.facts.choices id inside).fit
      board.incumbent begun.facts.incumbent.drawing.crossing_free.places_fit verdict (verdict_sound verdict is)

  closed_so : (verdict : Verdict Flows) → verdict_of board id ≡ Some verdict → (ComesFirst board.incumbent verdict → ⊥) →
      IsFurther board (nodes ++ closing_of verdict ∷ []) waiting (waiting ++ id ∷ [])
  closed_so verdict is late =
      closed_further board nodes waiting id begun (closing_of verdict)
      (closing_right board.shape (choices_of (board_state board) id) begun.facts.shape (begun.facts.choices id inside).fit board.incumbent
      begun.facts.incumbent (none_open_is_best total_length DoBack board begun.facts begun.none_open) (few board nodes waiting id begun)
      verdict (verdict_sound verdict is) late)
      (closing_opens verdict (choices_of (board_state board) id))
      (closing_entry board id verdict is late)

  -- a branch with a key before the incumbent was split
  pub split_at : HasFirstKey board id → (what : Settled) → standing_of (board_state board) id ≡ Done what →
      ((first s t : ℕ) → what ≡ Split first s t → ⊥) → ⊥
  split_at first what done none =
      let by = kept what done in
      not_other what (split_where_first board.incumbent by.verdict what by.leads (first by.verdict by.kept)) none

  -- and is split still
  pub still_at : HasFirstKey board id → (first s t : ℕ) → standing_of (board_state board) id ≡ Done (Split first s t) →
      IsSplitStill board id first s t
  still_at before first s t done =
      let by = kept (Split first s t) done in
      still_split board id first s t done by.verdict by.kept (before by.verdict by.kept) by.splits

-- a branch whose key is not before the incumbent is closed
pub closed_at : (board : BoardView Flows) (nodes nodes' : List CertNode) (waiting : List ℕ) (id : ℕ) → BeginsCertificate board nodes (waiting ++ id ∷ []) →
    (best : Key) → best ≡ board.incumbent → (verdict : Verdict Flows) → verdict_of board id ≡ Some verdict →
    (says : Bool) → (IsTrue says ↔ ComesFirst best verdict) → says ≡ false →
    (node : CertNode) → node ≡ closing_of verdict → nodes' ≡ nodes ++ node ∷ [] → IsFurther board nodes' waiting (waiting ++ id ∷ [])
closed_at board nodes nodes' waiting id begun best is_best verdict is says order denied node is_node is_nodes =
    let added : nodes' ≡ nodes ++ closing_of verdict ∷ [] = is_nodes ∙ ap (λ (n : CertNode). nodes ++ n ∷ []) is_node in
    subst (λ (l : List CertNode). IsFurther board l waiting (waiting ++ id ∷ [])) (sym added)
    (closed_so board nodes waiting id begun verdict is
    (λ first. iff_false order denied (subst (λ (key : Key). ComesFirst key verdict) (sym is_best) first)))
