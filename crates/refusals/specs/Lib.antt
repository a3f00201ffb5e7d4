-- What the contracts of the canvas's refusals say: document 01, "Canvas".
pub mod Refusals
