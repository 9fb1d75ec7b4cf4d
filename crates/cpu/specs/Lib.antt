pub mod EntriesInCode
pub mod InstructionInCode
pub mod Work
pub mod InstructionAccesses
