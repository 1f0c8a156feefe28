use Rattle.std.proofs.Common.{◌≡◌, ◌+◌}
use Rattle.ticket_board.proofs.dealing.enlist.Given as goal

abbrev pub invariant-loop : goal.invariant-loop
invariant-loop g l = l.board ≡ record l.initial.board { given = l.initial.board.given + l.counter }
