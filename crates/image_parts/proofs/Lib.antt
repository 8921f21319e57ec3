pub mod Formats
pub mod Tagged
pub mod Joins
pub mod Kept
pub mod Readings
pub mod Letters
pub mod Logs
pub mod Registers
