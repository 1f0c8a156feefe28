pub mod PieceWays
pub mod Spans
pub mod CommonEnds
pub mod Collisions
pub mod Partners
pub mod Seats
pub mod Groups
