pub mod Copies
pub mod Clock
