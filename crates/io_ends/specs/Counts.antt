-- Counts of calls and of faults. They start at 0, never fall and end at u64::MAX.
use Rattle.std.specs.Prelude.{◌≡◌, ℕ, ◌+◌, ◌-◌, ◌^◌, ◌≤◌, min, Result, MatchResult}

-- the count after one more
abbrev pub next_count : ℕ → ℕ
next_count before = min (before + 1) (2 ^ 64 - 1)

-- the count rose, or it stands at its end
abbrev pub Rose : ℕ → ℕ → Type 0
Rose before now = next_count before ≤ now

-- what a failed call does to the count of faults: it rose, and so did not fall
pub record Counted (before now : ℕ) : Type 0 where
  pub rose : Rose before now
  pub not_fallen : before ≤ now

-- what any other call does to it: it is as before
abbrev pub Uncounted : ℕ → ℕ → Type 0
Uncounted before now = now ≡ before

-- a fault is counted exactly where the call failed
abbrev pub CountsFailure : {T E : Type 0} → Result T E → ℕ → ℕ → Type 0
CountsFailure result before now =
    MatchResult result (λ _. Uncounted before now) (λ _. Counted before now)
