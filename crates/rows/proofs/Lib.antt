pub mod Rules
pub mod Lines
pub mod Answers
mod Unique
