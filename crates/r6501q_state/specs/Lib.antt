pub mod Copies
pub mod State
pub mod Pins
pub mod Inputs
pub mod Control
