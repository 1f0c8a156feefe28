pub mod Conditions
pub mod Courses
pub mod Points
pub mod Meetings
pub mod Faults
pub mod Shapes
pub mod inner
