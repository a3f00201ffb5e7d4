pub mod Paper
pub mod Laws
pub mod Answers
mod Unique
