pub mod Rests
pub mod Fair
pub mod Halted
pub mod Held
pub mod Untouched
pub mod Shifted
pub mod Summed
