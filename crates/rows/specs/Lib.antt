-- What the contracts of rows say: document 01, "Row plans".
pub mod Rows
pub mod Steps
