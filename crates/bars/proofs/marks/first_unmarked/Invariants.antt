use Rattle.std.proofs.Common.{◌≤◌, ◌-◌}
use Rattle.bars.specs.inner.Marks.{AreFirstUnmarked}
use Rattle.bars.proofs.marks.first_unmarked.Given as goal

abbrev pub invariant-loop-v : goal.invariant-loop-v
invariant-loop-v l = record {
  within : l.v ≤ l.vertices;
  found : AreFirstUnmarked l.lines l.marked l.v (l.vertices - l.v) l.places;
}

abbrev pub decreases-loop-v : goal.decreases-loop-v
decreases-loop-v l = l.v
