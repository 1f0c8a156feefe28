-- How a write of the output ends.
use Rattle.std.specs.Prelude.{◌≡◌, ℕ, List, Option, ◌⊎◌}
use Rattle.std.specs.Io.KnownBytes.{Appends}
use Rattle.io_ends.specs.Counts.{Counted, Uncounted}
use Rattle.io_ends.specs.Ends.{AppendsFront}
use Rattle.compact_main.specs.declared.status.Status.{Status}
use Rattle.compact_main.specs.declared.status.Status.TheVariants.{Done, WriteFault}

-- Done, and the sink gained all of it and counted no fault; or WriteFault, and it gained a front of
-- it and counted a fault
abbrev pub IsWritten : List ℕ → Option (List ℕ) → Option (List ℕ) → ℕ → ℕ → Status → Type 0
IsWritten written held held' faults faults' status =
    ((status ≡ Done) × Appends held held' written × Uncounted faults faults')
    ⊎ ((status ≡ WriteFault) × AppendsFront held held' written × Counted faults faults')
