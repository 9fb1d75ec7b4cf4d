pub mod InstructionSet
pub mod Decode
