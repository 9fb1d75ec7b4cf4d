pub mod Spanned
pub mod Ticked
