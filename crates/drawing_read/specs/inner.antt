pub mod Layouts
pub mod Legible
pub mod Passes
