-- What a command reads of its source.
use Rattle.std.specs.Prelude.{◌≡◌, ℕ, ◌≤◌, List, [], length, Option, Some}
use Rattle.std.specs.Io.KnownBytes.{Consumes, IsAtEnd}
use Rattle.io_ends.specs.Counts.{Rose}
use Rattle.gml_text.specs.declared.limits.TheConstants.{MOST_BYTES}
use Rattle.compact_main.specs.declared.command.Command.{Command}
use Rattle.compact_main.specs.declared.command.Command.TheVariants.{Draw, Check, Measure, Verify, Sample}
use Rattle.compact_main.specs.declared.command.TheConstants.{MOST_INPUT_BYTES}

-- a text of at most this many bytes, to its end, or nothing
pub data Intake : Type 0 where
  a_text : ℕ → Intake
  nothing : Intake

abbrev pub intake_of : Command → Intake
intake_of (Draw pitch form) = a_text MOST_INPUT_BYTES
intake_of Check = a_text MOST_INPUT_BYTES
intake_of Measure = a_text MOST_INPUT_BYTES
intake_of Verify = a_text MOST_BYTES
intake_of (Sample number) = nothing

-- the most bytes of it
abbrev pub most_of : Intake → ℕ
most_of (a_text limit) = limit
most_of nothing = 0

-- how many bytes the command reads at most
abbrev pub limit_of : Command → ℕ
limit_of command = most_of (intake_of command)

-- these bytes were taken from the source
abbrev pub Takes : {S : Type 0} → Intake → (S → Option (List ℕ)) → S → S → List ℕ → Type 0
Takes (a_text limit) left source source' bytes = Consumes (left source) (left source') bytes
Takes nothing left source source' bytes = (source' ≡ source) × (bytes ≡ [])

-- all that is to be read was read
abbrev pub IsReadOut : {S : Type 0} → Intake → (S → Option (List ℕ)) → S → Type 0
IsReadOut (a_text limit) left source' = IsAtEnd (left source')
IsReadOut nothing left source' = Unit {0}

-- a read may fail once these bytes were taken
abbrev pub MayFailAfter : Intake → List ℕ → Type 0
MayFailAfter (a_text limit) bytes = length bytes ≤ limit
MayFailAfter nothing bytes = ⊥

-- the source tells that this is its text, and no read of it failed; or nothing is read, and no
-- text is given
abbrev pub IsGiven : {S : Type 0} →
    Intake → (S → Option (List ℕ)) → (S → ℕ) → S → S → List ℕ → Type 0
IsGiven (a_text limit) left faults source source' text =
    (left source ≡ Some text) × (Rose (faults source) (faults source') → ⊥)
IsGiven nothing left faults source source' text = text ≡ []
