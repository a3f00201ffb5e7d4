-- What the contracts of plan say: document 01, "Row plans".
pub mod Plan
pub mod Steps
