pub mod Bits
pub mod Reaching
pub mod inner
