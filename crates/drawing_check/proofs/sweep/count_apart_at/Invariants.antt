use Rattle.drawing_check.specs.inner.Seats.{IsApartUpTo}
use Rattle.drawing_check.proofs.sweep.count_apart_at.Given as goal

abbrev pub invariant-loop-later : goal.invariant-loop-later
invariant-loop-later l = IsApartUpTo l.points l.seats l.fn.place l.later l.count
