pub mod Loading
pub mod Branches
pub mod Comparing
pub mod Flowing
