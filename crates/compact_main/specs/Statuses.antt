-- The numbers of the statuses, and how a run ends that has no answer for its text.
use Rattle.std.specs.Prelude.{ℕ}
use Rattle.compact_main.specs.declared.status.Failure.{Failure}
use Rattle.compact_main.specs.declared.status.Failure.TheVariants as failures
use Rattle.compact_main.specs.declared.status.Status.{Status}
use Rattle.compact_main.specs.declared.status.Status.TheVariants.{Done, Refused, BadWords}
use Rattle.compact_main.specs.declared.status.Status.TheVariants.{ReadFault, WriteFault, NoMemory}
use Rattle.compact_main.specs.declared.status.Status.TheVariants.{NotProved}

abbrev pub number_of_status : Status → ℕ
number_of_status Done = 0
number_of_status (Refused why) = 1
number_of_status BadWords = 2
number_of_status ReadFault = 3
number_of_status WriteFault = 4
number_of_status NoMemory = 5
number_of_status (NotProved unproved) = 6

-- a text is refused, or not proved
abbrev pub status_of : Failure → Status
status_of (failures.Refused why) = Refused why
status_of (failures.NotProved unproved) = NotProved unproved
