-- What the contracts of job say: document 01, "Jobs".
pub mod Records
pub mod Commands
pub mod Dropping
