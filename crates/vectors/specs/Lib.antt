-- What the contracts of vectors say: compare/README.md, "The fixed lists".
pub mod Buffers
pub mod Hex
pub mod Lines
pub mod Seeds
pub mod Sums
