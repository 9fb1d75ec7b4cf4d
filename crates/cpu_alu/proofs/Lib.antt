pub mod Bounds
pub mod Integers
pub mod Decimal
pub mod Flags
pub mod Subtract
pub mod Examples
