-- What a pass shows of its caller.
use Rattle.std.specs.Prelude.{◌≡◌, ◌⊎◌, ℕ, ◌+◌, ◌<◌, ◌==◌, List, [], ◌++◌, length, filter, slice_get, Some, Contains}
use Rattle.atomic_table.specs.Seated.{TableId}
use Rattle.compact_types.specs.declared.plan.Shape.{Shape}
use Rattle.board.specs.declared.entries.Entry.{Entry}
use Rattle.board.specs.declared.entries.Entry.TheVariants.{Claimed, Settled}
use Rattle.board.specs.declared.entries.Settled.{Settled as Outcome}
use Rattle.board.specs.Histories.{IsLegal, caller_of}

-- which ticket board it is, and the shape that its board was made with
pub record BoardHome : Type 0 where
  pub table : TableId
  pub shape : Shape

-- the ticket board to which the pass belongs, the number of its caller, the history that it has
-- seen, its own entries, and how many turns it has taken
pub record PassView : Type 0 where
  pub home : BoardHome
  pub number : ℕ
  pub seen : List Entry
  pub mine : List Entry
  pub turns : ℕ

-- the first history begins the second
pub record Begins (front whole : List Entry) : Type 0 where
  pub rest : List Entry
  pub whole_is : whole ≡ front ++ rest

-- the entries of the caller with this number, in their order
abbrev pub entries_by : ℕ → List Entry → List Entry
entries_by number history = filter (λ entry. caller_of entry == number) history

-- a new pass: it has no entry of its own, and has taken no turn
abbrev pub new_pass : BoardHome → ℕ → List Entry → PassView
new_pass home number seen =
    record { home = home; number = number; seen = seen; mine = []; turns = 0 }

-- the pass after a turn that ended with this history
abbrev pub turned : PassView → List Entry → PassView
turned pass history = record pass {
  seen = history;
  mine = entries_by pass.number history;
  turns = pass.turns + 1;
}

-- the passes of `callers` new callers, in the order of their numbers, from `first` on
pub record AreNewcomers (home : BoardHome) (first callers : ℕ) (seen : List Entry) (passes : List PassView) :
    Type 0 where
  pub count : length passes ≡ callers
  pub each : (k : ℕ) → k < callers → slice_get passes k ≡ Some (new_pass home (first + k) seen)

-- the pass was answered that the branch is its own, and has not settled it
pub record IsHolding (pass : PassView) (id : ℕ) : Type 0 where
  pub claimed : Contains pass.mine (Claimed pass.number id)
  pub not_settled : (what : Outcome) → Contains pass.mine (Settled pass.number id what) → ⊥

-- The pass has seen more: it is the same caller's, and has seen a legal history that begins with
-- what it had seen, in which the entries of its number are its own.
pub record HasSeenMore (old new : PassView) : Type 0 where
  pub home : new.home ≡ old.home
  pub number : new.number ≡ old.number
  pub later : Begins old.seen new.seen
  pub legal : IsLegal new.seen
  pub own : entries_by new.number new.seen ≡ new.mine

-- after the two passes met, the first has seen the longer of the two histories, and both begin it
pub record HaveMet (old other new : PassView) : Type 0 where
  pub more : HasSeenMore old new
  pub told : Begins other.seen new.seen
  pub one : (new.seen ≡ old.seen) ⊎ (new.seen ≡ other.seen)
  pub mine : new.mine ≡ old.mine
  pub turns : new.turns ≡ old.turns
