pub mod Sound
pub mod Stores
