pub mod Modes
pub mod ModeAccesses
