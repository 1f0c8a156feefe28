use Rattle.std.proofs.Common.{◌≡◌, ◌≤◌, length}
use Rattle.cert_text.specs.inner.Reading.{after_word}
use Rattle.cert_text.proofs.reading.numbers.after_word.Given as goal

abbrev pub invariant-loop-left : goal.invariant-loop-left
invariant-loop-left l = (after_word l.left l.rest ≡ after_word l.word l.text)
    × (length l.rest ≤ length l.text)

abbrev pub decreases-loop-left : goal.decreases-loop-left
decreases-loop-left l = length l.left
