pub mod Places
mod Scaling
pub mod Sides
mod Unique
