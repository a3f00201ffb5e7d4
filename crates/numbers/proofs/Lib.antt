pub mod Sides
pub mod OneAnswer
pub mod Refusals
mod Unique
