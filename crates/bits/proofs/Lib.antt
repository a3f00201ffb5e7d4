pub mod Rows
mod Stretching
mod Unpacking
mod Stamping
mod Unique
