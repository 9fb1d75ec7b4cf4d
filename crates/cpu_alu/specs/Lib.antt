pub mod Status
pub mod Arithmetic
pub mod Logic
pub mod Shift
