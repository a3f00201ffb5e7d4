-- What colour's contracts say: document 01, "Colour".
pub mod Channel
pub mod Colour
