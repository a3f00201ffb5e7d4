-- What the contracts of images say: document 01, "Decoding".
pub mod Formats
pub mod Stretching
pub mod Steps
