pub mod Ticks
pub mod Unseen
