pub mod Format
pub mod ScsrBits
