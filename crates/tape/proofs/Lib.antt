pub mod MemoryLaws
pub mod TapeLaws
pub mod Laws
pub mod Summed
pub mod Examples
