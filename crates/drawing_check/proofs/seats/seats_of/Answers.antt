use Rattle.std.proofs.Common.{sym, subst, ◌∙◌, List, length}
use Rattle.drawing_check.specs.declared.seats.Seat.{Seat}
use Rattle.drawing_check.specs.inner.Seats.{AreSeats, AreSeatsOfPieces}
use Rattle.drawing_check.proofs.SeatLemmas.{ends_inside, lent_whole, seats_as_read}
use Rattle.drawing_check.proofs.seats.seats_of.Goals as goal

pub numbered-requires : goal.numbered-requires
numbered-requires c =
    ends_inside c.args.plan.now c.args.places.now _ _ c.as_slice-pieces.ensures c.as_slice-points.ensures c.requires.places_fit

pub returns : goal.returns
returns c =
    let axis = c.longer_axis-axis.result in
    let points = c.as_slice-points.result.now in
    let pieces = c.as_slice-pieces.result.now in
    let numbered = subst (λ (l : List Seat). AreSeatsOfPieces axis points pieces (length pieces) l) (sym c.as_mut_slice.ensures.value) c.in_ok-seats.ensures in
    let after = c.order_by_begin.new.seats in
    subst (λ (l : List Seat). AreSeats c.args.places.now.xy c.args.plan.now.pieces l)
    (sym (lent_whole c.in_ok-seats.seats.len after _ (sym (c.order_by_begin.ensures.len ∙ c.as_mut_slice.ensures.len))))
    (seats_as_read axis c.args.plan.now c.args.places.now pieces points _ _ c.as_slice-pieces.ensures c.as_slice-points.ensures
    c.order_by_begin.ensures.permutation numbered c.order_by_begin.ensures.in_order)
