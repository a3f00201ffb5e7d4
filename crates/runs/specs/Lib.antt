-- What the contracts of runs say: document 01, "Jobs".
pub mod Pictures
pub mod Run
pub mod Steps
