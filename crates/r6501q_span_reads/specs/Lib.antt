pub mod Steady
pub mod Known
