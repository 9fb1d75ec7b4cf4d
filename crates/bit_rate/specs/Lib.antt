pub mod BitRate
