-- What is claimed of a run and a plan of one job, and of a command and the canvas operations.
pub mod Agreement
pub mod Canvas
