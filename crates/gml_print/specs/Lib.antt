pub mod Printing
pub mod TextReadings
pub mod Numbers
pub mod Placing
pub mod Places
pub mod Paths
pub mod inner
