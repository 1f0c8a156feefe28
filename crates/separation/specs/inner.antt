pub mod Extents
pub mod Sweeps
pub mod Candidates
pub mod Choosing
