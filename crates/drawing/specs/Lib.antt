-- What the contracts of drawing say: document 01, "Canvas".
pub mod Drawing
