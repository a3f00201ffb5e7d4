-- What the contracts of areas say.
pub mod Areas
pub mod Steps
