-- Document 01, "Numbers an entry can give".
pub mod Numbers
