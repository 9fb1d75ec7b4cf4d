pub mod Laws
pub mod Ranges
pub mod InstructionAccesses
pub mod Conclusions
pub mod ReadsToChange
