use Rattle.std.proofs.Common.{◌≡◌, ◌≤◌, length}
use Rattle.cert_text.specs.inner.Reading.{digits_from}
use Rattle.cert_text.proofs.reading.numbers.digits_at.Given as goal

abbrev pub invariant-loop-rest : goal.invariant-loop-rest
invariant-loop-rest l =
    (digits_from l.most l.value l.rest ≡ digits_from l.most l.fn.before l.text) × (l.value ≤ l.most)
    × (length l.rest ≤ length l.text)

abbrev pub decreases-loop-rest : goal.decreases-loop-rest
decreases-loop-rest l = length l.rest
