pub mod ReceivedParity
pub mod PutInTurn
