mod Digits
pub mod Lines
mod Jobs
mod Examples
mod Unique
