-- What the contracts of bits say.
pub mod Bits
pub mod Steps
