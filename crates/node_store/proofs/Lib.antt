pub mod Alone
pub mod Ends
pub mod Noting
pub mod Quiet
pub mod Stores
pub mod Turns
