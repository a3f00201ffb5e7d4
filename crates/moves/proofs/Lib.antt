pub mod Laws
pub mod Turns
mod Bytes
mod Runs
mod Rows
mod Pieces
mod Rects
mod Unique
