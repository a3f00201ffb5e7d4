pub mod Codes
pub mod Equal
mod Examples
mod Unique
