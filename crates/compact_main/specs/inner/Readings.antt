-- How a command reads its text, and how its reading may end.
use Rattle.std.specs.Prelude.{◌≡◌, ℕ, List, Option, None, Some}
use Rattle.io_ends.specs.Ends.{Gave}
use Rattle.io_ends.specs.declared.transfer.ReadEnd.{ReadEnd}
use Rattle.compact_main.specs.declared.command.Command.{Command}
use Rattle.compact_main.specs.declared.command.Command.TheVariants.{Draw, Check, Measure, Verify, Sample}
use Rattle.compact_main.specs.Intakes.{Intake}
use Rattle.compact_main.specs.Intakes.Intake.{a_text, nothing}

-- the limit of the text that is read, or none if nothing is read
abbrev pub IsTextLimit : Intake → Option ℕ → Type 0
IsTextLimit (a_text limit) given = given ≡ Some limit
IsTextLimit nothing given = given ≡ None

-- what was given before the reading was given up, which it never is if nothing is read
abbrev pub IsGivenUp : {S : Type 0} →
    Intake → (S → Option (List ℕ)) → S → S → ReadEnd → Type 0
IsGivenUp (a_text limit) left source source' why = Gave why limit (left source) (left source')
IsGivenUp nothing left source source' why = ⊥

-- the command reads a text that is to hold a drawing
abbrev pub ReadsDrawing : Command → Type 0
ReadsDrawing (Draw pitch form) = Unit {0}
ReadsDrawing Check = Unit {0}
ReadsDrawing Measure = Unit {0}
ReadsDrawing Verify = Unit {0}
ReadsDrawing (Sample number) = ⊥
