pub mod Plays
pub mod Members
