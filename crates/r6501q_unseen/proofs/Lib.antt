pub mod CounterA
pub mod Transmission
pub mod Reception
pub mod Clocks
pub mod TickClocks
pub mod Laws
