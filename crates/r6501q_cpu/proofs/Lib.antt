pub mod Asks
pub mod Answered
pub mod Ranges
pub mod Undefined
pub mod Stores
