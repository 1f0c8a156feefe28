pub mod Solving
pub mod Solvers
