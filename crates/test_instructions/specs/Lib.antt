pub mod Line
pub mod Instruction
