pub mod Untouched
pub mod Stops
pub mod Halted
pub mod Held
pub mod ReleaseLists
pub mod Released
pub mod Shifted
