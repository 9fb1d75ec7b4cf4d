pub mod Digits
pub mod Records
