pub mod Listed
mod Going
mod Answers
mod Unique
