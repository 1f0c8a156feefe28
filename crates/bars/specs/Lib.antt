pub mod Lines
pub mod Segments
pub mod Ends
pub mod Sides
pub mod Solutions
pub mod Points
pub mod inner
