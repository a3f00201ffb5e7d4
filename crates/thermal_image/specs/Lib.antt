-- What the contracts of the canvas say: document 01, "Canvas".
pub mod Canvas
