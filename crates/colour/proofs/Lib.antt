mod Rounding
mod Sides
mod Near
mod Operations
mod Product
mod Accurate
mod Halves
mod Doubled
pub mod Tests
pub mod Laws
mod Unique
