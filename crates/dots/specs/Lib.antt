-- What the contracts of dots say.
pub mod Dots
pub mod Tables
