pub mod Updates
pub mod Kinds
