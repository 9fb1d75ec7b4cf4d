pub mod Examples
pub mod ShiftRegister
pub mod IndirectJump
pub mod AccessOrder
pub mod StoreClocks
pub mod ShiftedTape
pub mod Table
