pub mod PinLists
pub mod Steps
