pub mod InTurn
pub mod Indexed
pub mod Sent
