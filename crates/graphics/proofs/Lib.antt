pub mod Codes
mod Answers
mod Layering
mod Unique
mod Examples
