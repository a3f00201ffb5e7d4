pub mod Laws
mod Pixels
mod Flips
mod Borders
mod Examples
mod Unique
