-- What the contracts of graphics say: document 01, "Decoding".
pub mod Decoding
pub mod Layers
pub mod Steps
