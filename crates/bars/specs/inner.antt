pub mod Leads
pub mod Tables
pub mod Marks
pub mod Crossings
pub mod Spans
pub mod Invariant
