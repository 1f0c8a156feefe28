use Rattle.std.proofs.Common.{◌≡◌, length}
use Rattle.reach_rows.proofs.tests.numbered.Given as goal

abbrev pub invariant-loop-node : goal.invariant-loop-node
invariant-loop-node l = length l.numbers ≡ l.node
