pub mod Mnemonics
pub mod Flags
pub mod Bytes
