pub mod PageSums
