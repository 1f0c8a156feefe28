pub mod FirstIncumbents
pub mod Lives
pub mod Sharing
pub mod Turns
