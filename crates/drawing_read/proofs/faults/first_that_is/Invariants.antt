use Rattle.std.proofs.Common.{◌≡◌, drop}
use Rattle.drawing_read.specs.Faults.{first_that_is}
use Rattle.drawing_read.proofs.faults.first_that_is.Given as goal

abbrev pub invariant-loop-fault : goal.invariant-loop-fault
invariant-loop-fault l = first_that_is (drop l.fault-index l.found) ≡ first_that_is l.found
