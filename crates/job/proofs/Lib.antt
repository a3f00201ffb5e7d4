pub mod Found
pub mod Soundness
pub mod Reasons
pub mod Folds
pub mod Walk
mod Unique
