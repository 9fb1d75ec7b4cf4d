pub mod Gaps
pub mod Examples
