-- What a worker gives to the others when it has solved a branch.
use Rattle.std.specs.Prelude.{◌≡◌, ℕ, ◌+◌, List, [], ◌∷◌, ◌++◌, MatchOption, Option}
use Rattle.compact_types.specs.declared.plan.Shape.{Shape}
use Rattle.compact_types.specs.declared.search.Branch.{Branch}
use Rattle.compact_types.specs.declared.search.Choice.{Choice}
use Rattle.compact_types.specs.Bests.{Objective}
use Rattle.bars.specs.Solutions.{with_choice}
use Rattle.shape_graphs.specs.declared.measure.Verdict.{Verdict}
use Rattle.shape_graphs.specs.Measures.{BacksBefore, IsRight}
use Rattle.board.specs.declared.entries.Settled.{Settled}
use Rattle.board.specs.declared.entries.Settled.TheVariants.{Split, Closed, Improved}
use Rattle.board.specs.Verdicts.{IsBranchPairFor}
use Rattle.steal_lanes.specs.States.{LaneState}
use Rattle.workers.specs.declared.sharing.Next.{Next}

-- the verdict is right for some choices, and the pair is the one that comes with it
pub record IsSolvedFor {P : Type 0} (objective : Objective) (shape : Shape) (verdict : Verdict P)
    (pair : Option (ℕ × ℕ)) : Type 0 where
  pub choices : List Choice
  pub right : IsRight objective shape choices verdict
  pub pair_is : IsBranchPairFor shape choices verdict pair

-- the child of a branch on one side of a pair, where the children are numbered from `first` on
abbrev pub child_of : Branch → ℕ → ℕ → ℕ → ℕ → Branch
child_of branch first s t side = record {
  id = first + side;
  choices = record { choices = with_choice branch.choices.choices s t side };
}

-- what goes into the lane where the branch was settled so: of a split the first three children
abbrev pub children_to_put : Branch → Settled → List Branch
children_to_put branch (Split first s t) =
    child_of branch first s t 0 ∷ child_of branch first s t 1 ∷ child_of branch first s t 2 ∷ []
children_to_put branch Closed = []
children_to_put branch Improved = []

-- the lane has gained what goes into it, but for the last branches, which are left
pub record HasPut (branch : Branch) (what : Settled) (left : List Branch) (old new : LaneState) :
    Type 0 where
  pub home : new.home ≡ old.home
  pub room : new.room ≡ old.room
  pub put : List Branch
  pub lane : new.view.put ≡ old.view.put ++ put
  pub in_order : put ++ left ≡ children_to_put branch what

-- the branch has the choices of the other and one more
pub record HasOneMoreChoice (branch child : Branch) : Type 0 where
  pub last : Choice
  pub is : child.choices.choices ≡ branch.choices.choices ++ last ∷ []

-- the proof backs some verdict on the choices of the branch, so a solver of its children may begin
-- with it
pub record IsStartFor {P : Type 0} (Backs : List Choice → P → Verdict P → Type 0) (branch : Branch)
    (proof : P) : Type 0 where
  pub verdict : Verdict P
  pub backs : Backs branch.choices.choices proof verdict

-- a solver of the branch may begin with the proof, where there is one
abbrev pub MayStart : {P : Type 0} → (List Choice → P → Verdict P → Type 0) → Branch → Option P →
    Type 0
MayStart Backs branch start =
    MatchOption start (Unit {0}) (λ proof. BacksBefore Backs branch.choices.choices proof)

-- the solver of the branch that a worker goes on with may begin with the proof beside it
abbrev pub IsReady : {P : Type 0} → (List Choice → P → Verdict P → Type 0) → Next P → Type 0
IsReady Backs next = MayStart Backs next.branch next.start
