-- What the contracts of places say: document 01, "Canvas".
pub mod Places
pub mod Steps
