-- What a command reads of its source, and what was given before its reading was given up.
use Rattle.std.proofs.Common.{◌≡◌, ℕ, ◌+◌, ◌<◌, ◌≤◌, List, ◌++◌, length, Option, None, Some, sym, ap, ◌∙◌, subst, append-nil, length-append, arith}
use Rattle.std.specs.Io.KnownBytes.{Consumes, IsAtEnd}
use Rattle.io_ends.specs.Counts.{Rose}
use Rattle.io_ends.specs.declared.transfer.ReadEnd.TheVariants as ends
use Rattle.compact_main.specs.declared.command.Command.{Command}
use Rattle.compact_main.specs.declared.command.Command.TheVariants as commands
use Rattle.compact_main.specs.declared.status.Why.TheVariants.{TooLong}
use Rattle.compact_main.specs.Intakes.{Intake, intake_of, most_of, limit_of, Takes, IsReadOut, MayFailAfter, IsGiven}
use Rattle.compact_main.specs.Intakes.Intake.{a_text, nothing}
use Rattle.compact_main.specs.Outputs.{FirstRefusal}
use Rattle.compact_main.specs.inner.Readings.{IsGivenUp}

-- what was read to the end is all that was left
read_whole : (left left' : Option (List ℕ)) (text bytes : List ℕ) → left ≡ Some text → Consumes left left' bytes → IsAtEnd left' → bytes ≡ text
read_whole left left' text bytes known read end = by_rest left' (subst (λ (l : Option (List ℕ)). Consumes l left' bytes) known read) end
  where
    by_rest : (l : Option (List ℕ)) → Consumes (Some text) l bytes → IsAtEnd l → bytes ≡ text
    by_rest None r e = absurd r
    by_rest (Some rest) r e = sym (r ∙ ap (λ xs. bytes ++ xs) e ∙ append-nil bytes)

-- what was read is the whole text, where one is read
module _ {S : Type 0} (left : S → Option (List ℕ)) (read_faults : S → ℕ) (source source' : S) where
  pub whole_text : (intake : Intake) (text whole : List ℕ) → IsGiven intake left read_faults source source' whole → Takes intake left source source' text →
      IsReadOut intake left source' → text ≡ whole
  whole_text (a_text limit) text whole given read end = read_whole (left source) (left source') whole text given.0 read end
  whole_text nothing text whole given read end = read.1 ∙ sym given

  -- what was given before the reading was given up
  pub gave_too_much : (command : Command) → IsGivenUp (intake_of command) left source source' ends.TooLong →
      (given : List ℕ) × Takes (intake_of command) left source source' given × FirstRefusal command given TooLong
  gave_too_much (commands.Draw pitch form) (given, read, more) = (given, read, more)
  gave_too_much commands.Check (given, read, more) = (given, read, more)
  gave_too_much commands.Measure (given, read, more) = (given, read, more)
  gave_too_much commands.Verify (given, read, more) = (given, read, more)
  gave_too_much (commands.Sample number) none = absurd none

  pub gave_some : (intake : Intake) → IsGivenUp intake left source source' ends.ReadFault →
      (given : List ℕ) × Takes intake left source source' given × MayFailAfter intake given
  gave_some (a_text limit) (given, read, within) = (given, read, within)
  gave_some nothing none = absurd none

  pub gave_no_more : (intake : Intake) → IsGivenUp intake left source source' ends.NoMemory →
      (given : List ℕ) × Takes intake left source source' given × (length given ≤ most_of intake)
  gave_no_more (a_text limit) (given, read, within) = (given, read, within)
  gave_no_more nothing none = absurd none

  -- a text of which a read failed was not given without one
  pub not_given : (intake : Intake) (whole : List ℕ) → IsGivenUp intake left source source' ends.ReadFault →
      Rose (read_faults source) (read_faults source') → IsGiven intake left read_faults source source' whole → ⊥
  not_given (a_text limit) whole up rose given = given.1 rose
  not_given nothing whole up rose given = up

-- more bytes than a command reads are too many
over_text : (left left' : Option (List ℕ)) (text given : List ℕ) (limit : ℕ) → left ≡ Some text → Consumes left left' given → limit < length given → limit < length text
over_text left left' text given limit known read more = by_rest left' (subst (λ (l : Option (List ℕ)). Consumes l left' given) known read)
  where
    by_rest : (l : Option (List ℕ)) → Consumes (Some text) l given → limit < length text
    by_rest None r = absurd r
    by_rest (Some rest) r = let is : length text ≡ length given + length rest = ap length r ∙ length-append given rest in omega (arith, is, more)

module _ {S : Type 0} (left : S → Option (List ℕ)) (read_faults : S → ℕ) (source source' : S) (given whole : List ℕ) where
  over_limit : (limit : ℕ) → IsGiven (a_text limit) left read_faults source source' whole → Takes (a_text limit) left source source' given →
      limit < length given → limit < length whole
  over_limit limit told read more = over_text (left source) (left source') whole given limit told.0 read more

  pub over_whole : (command : Command) → IsGiven (intake_of command) left read_faults source source' whole →
      Takes (intake_of command) left source source' given → FirstRefusal command given TooLong → FirstRefusal command whole TooLong
  over_whole (commands.Draw pitch form) told read more = over_limit (limit_of (commands.Draw pitch form)) told read more
  over_whole commands.Check told read more = over_limit (limit_of commands.Check) told read more
  over_whole commands.Measure told read more = over_limit (limit_of commands.Measure) told read more
  over_whole commands.Verify told read more = over_limit (limit_of commands.Verify) told read more
  over_whole (commands.Sample number) told read none = absurd none
