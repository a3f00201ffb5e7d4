-- What the contracts of entries say: document 01, "Row plans".
pub mod Entries
pub mod Steps
