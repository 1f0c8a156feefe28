-- The tables of the answers that a caller gets in its turn.
use Rattle.std.specs.Prelude.{◌≡◌, ℕ, ◌+◌, ◌^◌, ◌<◌, List, [], ◌∷◌, ◌++◌, MatchOption, Option, None}
use Rattle.compact_types.specs.declared.plan.Shape.{Shape}
use Rattle.compact_types.specs.declared.search.Branch.{Branch}
use Rattle.compact_types.specs.declared.search.Choice.{Choice}
use Rattle.compact_types.specs.Bests.{Objective}
use Rattle.shape_graphs.specs.declared.measure.Verdict.{Verdict}
use Rattle.shape_graphs.specs.Measures.{BacksBefore}
use Rattle.board.specs.declared.entries.Claim.{Claim}
use Rattle.board.specs.declared.entries.Claim.TheVariants.{Yours, Taken, Stranger}
use Rattle.board.specs.declared.entries.Entry.{Entry}
use Rattle.board.specs.declared.entries.Entry.TheVariants as entries
use Rattle.board.specs.declared.entries.Settled.{Settled}
use Rattle.board.specs.declared.entries.Settled.TheVariants.{Split, Closed, Improved}
use Rattle.board.specs.Boards.{BoardView, IsOutcome, board_state}
use Rattle.board.specs.Facts.{AreFacts, AreSound}
use Rattle.board.specs.Histories.{state_of, choices_of, IsHeldBy, IsKnown, IsWaiting}
use Rattle.ticket_board.specs.Passes.{PassView, Begins, IsHolding}

-- The branch is the caller's: it was known and waited after a history that begins with what the
-- pass had seen, and the claim is the entry after that.
pub record IsGranted (old : PassView) (branch : Branch) (new : PassView) : Type 0 where
  pub before : List Entry
  pub later : Begins old.seen before
  pub known : IsKnown (state_of before) branch
  pub waits : IsWaiting (state_of before) branch.id
  pub seen : new.seen ≡ before ++ entries.Claimed new.number branch.id ∷ []
  pub mine : new.mine ≡ old.mine ++ entries.Claimed new.number branch.id ∷ []
  pub choices : choices_of (state_of new.seen) branch.id ≡ branch.choices.choices
  pub sound : AreSound new.home.shape branch.choices.choices
  pub holding : IsHolding new branch.id

-- The table of a claim, by what the pass has seen after it: a stranger exactly if there is no
-- branch of the number with the choices; taken exactly if there is one that does not wait; and
-- else the caller's. The first two add no entry.
abbrev pub IsClaimed : PassView → Branch → Claim → PassView → Type 0
IsClaimed old branch Stranger new =
    (IsKnown (state_of new.seen) branch → ⊥) × (new.mine ≡ old.mine)
IsClaimed old branch Taken new =
    IsKnown (state_of new.seen) branch × (IsWaiting (state_of new.seen) branch.id → ⊥)
    × (new.mine ≡ old.mine)
IsClaimed old branch Yours new = IsGranted old branch new

-- the numbers of the four children of a split fit in 64 bits
abbrev pub ChildrenFit : Settled → Type 0
ChildrenFit (Split first s t) = first + 3 < 2 ^ 64
ChildrenFit Closed = Unit {0}
ChildrenFit Improved = Unit {0}

-- The caller settled the branch: on a board of the shape, whose entries begin with what the pass had
-- seen, it has this outcome, and the settle is the entry after those of the board.
pub record IsSettledOn {P : Type 0} (objective : Objective)
    (Backs : Shape → List Choice → P → Verdict P → Type 0) (old : PassView) (id : ℕ)
    (verdict : Verdict P) (pair : Option (ℕ × ℕ)) (what : Settled) (new : PassView) : Type 0 where
  pub board : BoardView P
  pub facts : AreFacts objective Backs board
  pub shape : board.shape ≡ old.home.shape
  pub later : Begins old.seen board.entries
  pub held : IsHeldBy (board_state board) id old.number
  pub outcome : IsOutcome board verdict pair what
  pub children_fit : ChildrenFit what
  pub seen : new.seen ≡ board.entries ++ entries.Settled old.number id what ∷ []
  pub mine : new.mine ≡ old.mine ++ entries.Settled old.number id what ∷ []

-- With a claim comes the proof from which a solver of the branch may begin: none exactly if the
-- branch is not the caller's or is branch 0, and else one of a verdict on its choices without the
-- last.
abbrev pub IsStartOf : {P : Type 0} → (List Choice → P → Verdict P → Type 0) → Branch → Claim →
    Option P → Type 0
IsStartOf Backs branch Yours start =
    MatchOption start (branch.id ≡ 0) (λ proof. BacksBefore Backs branch.choices.choices proof)
IsStartOf Backs branch Taken start = start ≡ None
IsStartOf Backs branch Stranger start = start ≡ None
