-- What a history tells of a branch.
use Rattle.std.specs.Prelude.{◌≡◌, ◌⊎◌, ℕ, ◌<◌, List, slice_get, Some}
use Rattle.board.specs.declared.entries.Entry.{Entry}
use Rattle.board.specs.declared.entries.Entry.TheVariants.{Claimed, Settled}
use Rattle.board.specs.declared.entries.Settled.{Settled as Outcome}

-- the branch of an entry
abbrev pub branch_of : Entry → ℕ
branch_of (Claimed who id) = id
branch_of (Settled who id what) = id

-- The history tells the branch's whole story: it was claimed once, and after that settled once, by
-- the same caller, and no other entry is on it.
pub record IsTold (history : List Entry) (id : ℕ) : Type 0 where
  pub who : ℕ
  pub what : Outcome
  pub claim : ℕ
  pub settle : ℕ
  pub in_order : claim < settle
  pub claimed : slice_get history claim ≡ Some (Claimed who id)
  pub settled : slice_get history settle ≡ Some (Settled who id what)
  pub no_other : (i : ℕ) (entry : Entry) → slice_get history i ≡ Some entry → branch_of entry ≡ id →
      (i ≡ claim) ⊎ (i ≡ settle)
