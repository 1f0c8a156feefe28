use Rattle.std.proofs.Common.{◌≡◌, drop}
use Rattle.drawing_read.specs.Faults.{bad_point_from}
use Rattle.drawing_read.proofs.faults.bad_point.Given as goal

abbrev pub invariant-loop-e : goal.invariant-loop-e
invariant-loop-e l = bad_point_from l.e (drop l.e l.edges) ≡ bad_point_from 0 l.edges
