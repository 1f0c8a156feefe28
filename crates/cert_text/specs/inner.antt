pub mod Positives
pub mod Outlines
pub mod Bodies
pub mod Lines
pub mod Reading
