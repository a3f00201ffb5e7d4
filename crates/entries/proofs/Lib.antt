mod Made
pub mod Good
mod Images
pub mod Drawing
mod Unique
