pub mod Leaps
pub mod Chip
pub mod World
pub mod CallLists
pub mod Calls
pub mod Lent
pub mod Summed
pub mod Shifted
