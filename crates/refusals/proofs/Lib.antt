pub mod Codes
mod Unique
