pub mod Asks
pub mod Asked
pub mod Answering
pub mod Performed
pub mod Told
pub mod Ends
