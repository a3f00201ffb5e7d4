-- What the contracts of pixels say.
pub mod Pixels
pub mod Steps
