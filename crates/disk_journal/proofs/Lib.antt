pub mod Spelled
pub mod Refusals
pub mod Values
