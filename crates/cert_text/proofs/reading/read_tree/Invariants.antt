use Rattle.std.proofs.Common.{length}
use Rattle.cert_text.proofs.ReadTrees.{IsSoFar}
use Rattle.cert_text.proofs.reading.read_tree.Given as goal

abbrev pub invariant-loop-left : goal.invariant-loop-left
invariant-loop-left l = IsSoFar l.text l.nodes l.left l.rest

abbrev pub decreases-loop-left : goal.decreases-loop-left
decreases-loop-left l = length l.rest
