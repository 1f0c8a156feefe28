-- What a table keeps of a seat, and what a contract sees of it.
use Rattle.std.specs.Prelude.{◌≡◌, ◌<◌, [], IsSome, unwrap_or, refl}
use borrow.Author.Count.{below_none}
use Rattle.compact_types.specs.Lookups.{piece_at}
use Rattle.compact_types.specs.declared.plan.Plan.{Plan}
use Rattle.compact_types.specs.declared.plan.Shape.{Shape}
use Rattle.atomic_table.specs.Seated.{TableId}
use Rattle.least_word.specs.declared.view.Member.{Member}
use Rattle.least_word.specs.Seats.{SeatView}
use Rattle.least_word.specs.inner.Plays.{TableSeat}

-- the plan and the shape that stand for ones that are not there: they have no vertex
abbrev pub no_plan : Plan
no_plan = record {
  vertices = 0;
  pieces = [];
  ends = below_none (λ i. ((piece_at [] i).from < 0) × ((piece_at [] i).to < 0));
}

abbrev pub no_shape : Shape
no_shape = record { plan = no_plan; ways = []; one_for_each = refl }

-- a seat in a thread's hand holds no slot, and was not joined to another
pub record IsSeatInHand (seat : TableSeat) : Type 0 where
  pub whole : IsSome seat.0.shape
  pub empty : seat.1 ≡ []

-- what a contract sees of a seat
abbrev pub seat_view : TableId → Member → SeatView
seat_view table member = record {
  home = record { table = table; shape = unwrap_or member.shape no_shape };
  view = member.view;
}
