pub mod Processor
pub mod Asking
