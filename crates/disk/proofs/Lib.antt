pub mod Sent
pub mod Times
pub mod Torn
pub mod Undoing
pub mod Causes
