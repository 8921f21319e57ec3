pub mod Shelf
pub mod Logs
pub mod Refusals
pub mod Seals
