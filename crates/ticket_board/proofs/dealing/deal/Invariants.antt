use Rattle.std.proofs.Common.{◌≡◌, ◌+◌, ◌≤◌, vec_len, vec_capacity}
use Rattle.ticket_board.specs.Passes.{AreNewcomers}
use Rattle.ticket_board.specs.inner.Dealing.{IsDealer}
use Rattle.ticket_board.proofs.dealing.deal.Given as goal

abbrev pub invariant-loop-k : goal.invariant-loop-k
invariant-loop-k g l =
    let start = l.desk.key.board.value in
    (l.dealer.table_id ≡ l.desk.table_id) × (l.dealer.id ≡ 0) × IsDealer start l.first l.k l.dealer.me
    × AreNewcomers (record { table = l.desk.table_id; shape = start.shape }) (l.first + 1) (vec_len l.passes) start.entries l.passes.items
    × (vec_len l.passes + 1 ≡ l.k) × (l.callers ≤ vec_capacity l.passes)
