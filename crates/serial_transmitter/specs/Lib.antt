pub mod Transmitter
