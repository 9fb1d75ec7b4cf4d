pub mod PinLists
