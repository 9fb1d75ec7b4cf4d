pub mod Sums
pub mod Pages
pub mod Totals
pub mod Refused
