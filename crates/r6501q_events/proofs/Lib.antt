pub mod Inputs
pub mod Same
pub mod Steps
pub mod Quiet
pub mod Passing
pub mod Gaps
