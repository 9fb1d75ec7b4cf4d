pub mod Accesses
pub mod Follows
pub mod Pointers
