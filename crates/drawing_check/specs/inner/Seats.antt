-- The pieces of a plan in the order in which they begin along an axis.
use Rattle.std.specs.Prelude.{◌≡◌, ℕ, ◌<◌, pos, ◌≤ℤ◌, ◌⊎◌, List, length, slice_index_or}
use Rattle.compact_types.specs.declared.places.Axis.{Axis}
use Rattle.compact_types.specs.declared.places.Point.{Point}
use Rattle.compact_types.specs.declared.plan.Piece.{Piece}
use Rattle.compact_types.specs.Lookups.{along, no_piece, piece_at}
use Rattle.drawing_check.specs.declared.seats.Seat.{Seat}
use Rattle.drawing_check.specs.declared.span.PieceExtent.{PieceExtent}
use Rattle.drawing_check.specs.declared.span.Interval.{Interval}
use Rattle.drawing_check.specs.inner.Collisions.{HasPointsOfExtent, SharesAllowed}
use Rattle.drawing_check.specs.inner.Spans.{IsIn, IsInside}

-- the seat that stands for one that is not there
abbrev pub no_interval : Interval
no_interval = record { low = pos 0; high = pos 0 }

abbrev pub no_seat : Seat
no_seat = record {
  number = 0;
  span = no_interval;
  covered = record { piece = no_piece; extent = record { x = no_interval; y = no_interval } };
}

abbrev pub seat_at : List Seat → ℕ → Seat
seat_at seats k = slice_index_or seats k no_seat

-- the points that the seat covers lie in its span along the axis
abbrev pub IsSpanned : Axis → Seat → Type 0
IsSpanned axis seat = (z : Point) → IsInside seat.covered.extent z → IsIn seat.span (along axis z)

-- the ends of the seat's piece are vertices, and the seat covers the points of the piece
pub record IsPlaced (axis : Axis) (points : List Point) (seat : Seat) : Type 0 where
  pub from_inside : seat.covered.piece.from < length points
  pub to_inside : seat.covered.piece.to < length points
  pub covered : HasPointsOfExtent points seat.covered
  pub spanned : IsSpanned axis seat

-- the piece of the seat is the one of its number
abbrev pub HasItsPiece : List Piece → Seat → Type 0
HasItsPiece pieces seat = seat.covered.piece ≡ piece_at pieces seat.number

-- the seats are those of the first n pieces, by their numbers
pub record AreSeatsOfPieces (axis : Axis) (points : List Point) (pieces : List Piece) (n : ℕ) (seats : List Seat) : Type 0 where
  pub one_for_each : length seats ≡ n
  pub number : (k : ℕ) → k < n → (seat_at seats k).number ≡ k
  pub own : (k : ℕ) → k < n → HasItsPiece pieces (seat_at seats k)
  pub placed : (k : ℕ) → k < n → IsPlaced axis points (seat_at seats k)

-- the spans of the seats begin one after the other
abbrev pub SeatsBeginInOrder : List Seat → Type 0
SeatsBeginInOrder seats =
    (j k : ℕ) → j < k → k < length seats → (seat_at seats j).span.low ≤ℤ (seat_at seats k).span.low

-- along some axis the seats stand in the order in which they begin
pub record CanSweep (points : List Point) (seats : List Seat) : Type 0 where
  pub axis : Axis
  pub placed : (k : ℕ) → k < length seats → IsPlaced axis points (seat_at seats k)
  pub in_order : SeatsBeginInOrder seats

-- and each piece has a seat
pub record AreSeats (points : List Point) (pieces : List Piece) (seats : List Seat) : Type 0 where
  pub can_sweep : CanSweep points seats
  pub own : (k : ℕ) → k < length seats → HasItsPiece pieces (seat_at seats k)
  pub each : (i : ℕ) → i < length pieces → (k : ℕ) × (k < length seats) × ((seat_at seats k).number ≡ i)

-- where one of the two seats has a number below n, their pieces share no point but an allowed one
abbrev pub AreApartBelow : List Point → ℕ → Seat → Seat → Type 0
AreApartBelow points n a b =
    (a.number < n) ⊎ (b.number < n) → SharesAllowed points a.covered.piece b.covered.piece

-- the same of the seat at a place and of each one after it and before a last place
abbrev pub IsApartUpTo : List Point → List Seat → ℕ → ℕ → ℕ → Type 0
IsApartUpTo points seats place last n =
    (k : ℕ) → place < k → k < last → AreApartBelow points n (seat_at seats place) (seat_at seats k)
