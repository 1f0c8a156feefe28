use Rattle.std.proofs.Common.{length}
use Rattle.cert_text.specs.inner.Reading.{arc_of, no_bound}
use Rattle.cert_text.proofs.ReadItems.{IsReadSoFar}
use Rattle.cert_text.proofs.reading.loads.read_arcs.Given as goal

abbrev pub invariant-loop-arc : goal.invariant-loop-arc
invariant-loop-arc l = IsReadSoFar arc_of no_bound l.text l.arcs 0 l.rest

abbrev pub decreases-loop-arc : goal.decreases-loop-arc
decreases-loop-arc l = length l.rest
