pub mod Histories
pub mod Tellings
pub mod Works
pub mod Boards
pub mod Verdicts
pub mod Facts
pub mod inner
