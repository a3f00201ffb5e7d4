-- What the contracts of moves say.
pub mod Parts
pub mod Moves
pub mod Steps
