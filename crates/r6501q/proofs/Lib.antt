pub mod Called
pub mod Laws
pub mod Fair
pub mod Summed
pub mod Shifted
