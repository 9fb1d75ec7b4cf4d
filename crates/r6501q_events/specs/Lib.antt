pub mod Events
pub mod Gaps
