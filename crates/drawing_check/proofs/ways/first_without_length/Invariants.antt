use Rattle.std.proofs.Common.{ℕ, ◌<◌}
use Rattle.drawing_check.specs.Courses.{HasNoLength}
use Rattle.drawing_check.proofs.ways.first_without_length.Given as goal

abbrev pub invariant-loop-i : goal.invariant-loop-i
invariant-loop-i l = (k : ℕ) → k < l.i → HasNoLength l.plan l.places k → ⊥
