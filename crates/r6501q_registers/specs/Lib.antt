pub mod Addresses
pub mod Copies
pub mod Read
pub mod Write
