pub mod Hands
pub mod Searches
pub mod inner
