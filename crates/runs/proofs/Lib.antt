pub mod Pictures
pub mod Canvas
mod Going
mod Answers
mod Unique
