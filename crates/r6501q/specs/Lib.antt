pub mod Calls
pub mod CallLists
pub mod Shifted
