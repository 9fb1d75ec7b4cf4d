pub mod Cond
pub mod Tables
pub mod Bits
pub mod Numbers
