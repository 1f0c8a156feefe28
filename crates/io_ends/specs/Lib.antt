pub mod Counts
pub mod Steps
pub mod Portions
pub mod Ends
pub mod Supplies
pub mod Stores
