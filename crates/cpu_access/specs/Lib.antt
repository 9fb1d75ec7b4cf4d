pub mod Bus
pub mod Stack
pub mod Halt
pub mod Waiting
pub mod Accesses
