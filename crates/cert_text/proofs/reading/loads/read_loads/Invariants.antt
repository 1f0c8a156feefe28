use Rattle.std.proofs.Common.{length}
use Rattle.cert_text.specs.inner.Reading.{load_read, arc_after}
use Rattle.cert_text.proofs.ReadItems.{IsReadSoFar}
use Rattle.cert_text.proofs.reading.loads.read_loads.Given as goal

abbrev pub invariant-loop-found : goal.invariant-loop-found
invariant-loop-found l = IsReadSoFar load_read arc_after l.text l.loads l.least l.rest

abbrev pub decreases-loop-found : goal.decreases-loop-found
decreases-loop-found l = length l.rest
