pub mod Laws
pub mod Equal
mod Growing
mod Unique
