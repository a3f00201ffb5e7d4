-- What the steps of lists say. The entry's contract is by the definitions of rows.
pub mod Steps
