use Rattle.std.proofs.Common.{◌≡◌}
use Rattle.ticket_board.proofs.tests.threads.rounds.Given as goal

abbrev pub invariant-loop : goal.invariant-loop
invariant-loop g l = l.pass.home ≡ l.board
