pub mod Amounts
pub mod Tight
pub mod Improving
pub mod Shortest
pub mod Walks
pub mod inner
