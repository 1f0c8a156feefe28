-- What holds of a whole reading or writing.
use Rattle.std.specs.Prelude.{ℕ, ◌<◌, ◌≤◌, List, length, take, Option, Result, MatchResult}
use Rattle.std.specs.Io.KnownBytes.{Consumes, Appends}
use Rattle.io_ends.specs.Counts.{Counted, Uncounted}
use Rattle.io_ends.specs.declared.transfer.ReadEnd.{ReadEnd}
use Rattle.io_ends.specs.declared.transfer.ReadEnd.TheVariants.{ReadFault, TooLong, NoMemory}

-- what holds where a read failed, where there are too many bytes, and where memory was refused
abbrev pub MatchReadEnd : ReadEnd → Type 0 → Type 0 → Type 0 → Type 0
MatchReadEnd ReadFault P Q R = P
MatchReadEnd TooLong P Q R = Q
MatchReadEnd NoMemory P Q R = R

-- the given bytes are more than the limit exactly where the reason is that they are too many
abbrev pub IsOver : ReadEnd → ℕ → List ℕ → Type 0
IsOver why limit given =
    MatchReadEnd why (length given ≤ limit) (limit < length given) (length given ≤ limit)

-- the source gave some bytes before the refusal
abbrev pub Gave : ReadEnd → ℕ → Option (List ℕ) → Option (List ℕ) → Type 0
Gave why limit old new = (given : List ℕ) × Consumes old new given × IsOver why limit given

-- a fault is counted exactly where a read failed
abbrev pub CountsRead : {T : Type 0} → Result T ReadEnd → ℕ → ℕ → Type 0
CountsRead result before now = MatchResult result
    (λ _. Uncounted before now)
    (λ why. MatchReadEnd why (Counted before now) (Uncounted before now) (Uncounted before now))

-- the bytes that were held grew by a front of these
abbrev pub AppendsFront : Option (List ℕ) → Option (List ℕ) → List ℕ → Type 0
AppendsFront old new bytes =
    (count : ℕ) × (count ≤ length bytes) × Appends old new (take count bytes)
