pub mod Operand
pub mod Effects
