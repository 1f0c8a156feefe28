pub mod Views
pub mod Words
pub mod Seats
pub mod inner
