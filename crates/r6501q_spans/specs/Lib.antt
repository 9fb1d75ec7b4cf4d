pub mod Spans
pub mod Ticked
