mod Margins
mod Pictures
mod Rules
mod Rows
pub mod Demand
pub mod Canvas
pub mod Operations
mod Examples
