pub mod Commits
pub mod Tried
