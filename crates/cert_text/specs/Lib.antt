pub mod Trees
pub mod Loads
pub mod Texts
pub mod Certificates
pub mod Faults
pub mod Accepting
pub mod Trims
pub mod inner
