pub mod Replay
pub mod Printed
