-- The whole of a run: the commands that were asked for, what its source had and has left, what its
-- sink held and holds, both counts of faults, and how it ended.
use Rattle.std.specs.Prelude.{◌≡◌, ℕ, ◌≤◌, List, length, Option, ◌⊎◌, ◌↔◌}
use Rattle.std.specs.Io.KnownBytes.{Appends}
use Rattle.io_ends.specs.Counts.{Rose, Counted, Uncounted}
use Rattle.io_ends.specs.Ends.{AppendsFront}
use Rattle.compact_main.specs.declared.command.Command.{Command}
use Rattle.compact_main.specs.declared.status.Failure.{Failure}
use Rattle.compact_main.specs.declared.status.Failure.TheVariants as failures
use Rattle.compact_main.specs.declared.status.Unproved.{Unproved}
use Rattle.compact_main.specs.declared.status.Why.{Why}
use Rattle.compact_main.specs.declared.status.Why.TheVariants.{TooLong}
use Rattle.compact_main.specs.declared.status.Status.{Status}
use Rattle.compact_main.specs.declared.status.Status.TheVariants.{Done, Refused, BadWords}
use Rattle.compact_main.specs.declared.status.Status.TheVariants.{ReadFault, WriteFault, NoMemory}
use Rattle.compact_main.specs.declared.status.Status.TheVariants.{NotProved}
use Rattle.compact_main.specs.Intakes.{intake_of, limit_of, Takes, IsReadOut, MayFailAfter, IsGiven}
use Rattle.compact_main.specs.Outputs.{Output, IsValid, FirstFailure}

-- a command was asked for, all that it reads was read, and this is what it writes for that
pub record Answers {S : Type 0} (Asked : Command → Type 0) (left : S → Option (List ℕ))
    (source source' : S) (written : List ℕ) : Type 0 where
  pub command : Command
  pub text : List ℕ
  pub asked : Asked command
  pub read : Takes (intake_of command) left source source' text
  pub to_the_end : IsReadOut (intake_of command) left source'
  pub output : Output command text written

-- all of it was written
pub record IsDone {S : Type 0} (Asked : Command → Type 0) (left : S → Option (List ℕ))
    (source source' : S) (held held' : Option (List ℕ)) : Type 0 where
  pub written : List ℕ
  pub answers : Answers Asked left source source' written
  pub appended : Appends held held' written

-- a front of it was written
pub record IsBrokenOff {S : Type 0} (Asked : Command → Type 0) (left : S → Option (List ℕ))
    (source source' : S) (held held' : Option (List ℕ)) : Type 0 where
  pub written : List ℕ
  pub answers : Answers Asked left source source' written
  pub appended : AppendsFront held held' written

-- a command was asked for, and the text that was read has this first fault; it was read to its end,
-- unless it is too long
pub record IsFailed {S : Type 0} (Asked : Command → Type 0) (failure : Failure)
    (left : S → Option (List ℕ)) (source source' : S) : Type 0 where
  pub command : Command
  pub text : List ℕ
  pub asked : Asked command
  pub read : Takes (intake_of command) left source source' text
  pub to_the_end : (failure ≡ failures.Refused TooLong → ⊥) →
      IsReadOut (intake_of command) left source'
  pub fault : FirstFailure command text failure

-- a command was asked for, and a read failed after no more bytes than it reads
pub record IsReadFault {S : Type 0} (Asked : Command → Type 0) (left : S → Option (List ℕ))
    (source source' : S) : Type 0 where
  pub command : Command
  pub given : List ℕ
  pub asked : Asked command
  pub read : Takes (intake_of command) left source source' given
  pub within : MayFailAfter (intake_of command) given

-- a command was asked for, and no more bytes were taken than it reads
pub record IsStopped {S : Type 0} (Asked : Command → Type 0) (left : S → Option (List ℕ))
    (source source' : S) : Type 0 where
  pub command : Command
  pub given : List ℕ
  pub asked : Asked command
  pub read : Takes (intake_of command) left source source' given
  pub within : length given ≤ limit_of command

-- a text that the command accepts is answered, and any other is refused or not proved with its
-- first fault, unless memory is refused
pub record Completes (command : Command) (text : List ℕ) (status : Status) : Type 0 where
  pub done : IsValid command text → (status ≡ Done) ⊎ (status ≡ NoMemory)
  pub refused : (why : Why) → FirstFailure command text (failures.Refused why) →
      (status ≡ Refused why) ⊎ (status ≡ NoMemory)
  pub not_proved : (unproved : Unproved) → FirstFailure command text (failures.NotProved unproved) →
      (status ≡ NotProved unproved) ⊎ (status ≡ NoMemory)

-- the run of a program that is asked for these commands, mostly for one or for none
pub record IsRun {S K : Type 0} (Asked : Command → Type 0)
    (left : S → Option (List ℕ)) (read_faults : S → ℕ) (source source' : S)
    (held : K → Option (List ℕ)) (write_faults : K → ℕ) (out out' : K)
    (status : Status) : Type 0 where
  -- the words
  pub bad_words : (status ≡ BadWords) ↔ ((command : Command) → Asked command → ⊥)
  pub nothing_read : status ≡ BadWords → source' ≡ source
  -- what was read and written
  pub done : status ≡ Done → IsDone Asked left source source' (held out) (held out')
  pub write_fault : status ≡ WriteFault →
      IsBrokenOff Asked left source source' (held out) (held out')
  pub refused : (why : Why) → status ≡ Refused why →
      IsFailed Asked (failures.Refused why) left source source'
  pub not_proved : (unproved : Unproved) → status ≡ NotProved unproved →
      IsFailed Asked (failures.NotProved unproved) left source source'
  pub read_fault : status ≡ ReadFault → IsReadFault Asked left source source'
  pub no_memory : status ≡ NoMemory → IsStopped Asked left source source'
  pub nothing_written : (status ≡ Done → ⊥) → (status ≡ WriteFault → ⊥) → out' ≡ out
  -- the counts of faults
  pub read_counted : status ≡ ReadFault → Counted (read_faults source) (read_faults source')
  pub read_uncounted : (status ≡ ReadFault → ⊥) →
      Uncounted (read_faults source) (read_faults source')
  pub write_counted : status ≡ WriteFault → Counted (write_faults out) (write_faults out')
  pub write_uncounted : (status ≡ WriteFault → ⊥) → Uncounted (write_faults out) (write_faults out')
  -- each text is answered, unless memory is refused or a read or a write fails
  pub completes : (command : Command) (text : List ℕ) → Asked command →
      IsGiven (intake_of command) left read_faults source source' text →
      (Rose (write_faults out) (write_faults out') → ⊥) → Completes command text status
