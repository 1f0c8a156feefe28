use Rattle.std.proofs.Common.{rules}
use Rattle.std.proofs.lemmas.Fn.{always_returns_same}
use Rattle.drawing_check.specs.declared.seats.Seat.{Seat}
use Rattle.drawing_check.proofs.SeatLemmas.{order_from_sort}
use Rattle.drawing_check.proofs.seats.order_by_begin.Goals as goal

pub returns-clause-in_order : goal.returns-clause-in_order
returns-clause-in_order c =
    order_from_sort _ (c.sort_unstable_by_key.ensures.sorted (λ (seat : Seat). seat.span.low)
    (always_returns_same _ _ _ (λ a r q k. search rules)))
