pub mod Histories
pub mod Views
pub mod Rules
pub mod Steps
pub mod States
pub mod Answers
pub mod inner
