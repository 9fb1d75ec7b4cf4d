pub mod R6501q
pub mod Shifted
