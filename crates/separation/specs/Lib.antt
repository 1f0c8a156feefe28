pub mod Meetings
pub mod Reaching
pub mod Branching
pub mod Extensions
pub mod inner
