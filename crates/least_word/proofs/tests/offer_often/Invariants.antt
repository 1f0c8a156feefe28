use Rattle.std.proofs.Common.{◌≡◌}
use Rattle.least_word.proofs.tests.offer_often.Given as goal

abbrev pub invariant-loop : goal.invariant-loop
invariant-loop l = l.seat.home ≡ l.word
