pub mod Bodies
pub mod Formats
pub mod Frames
mod Heads
pub mod Joins
pub mod Placed
pub mod Wholes
pub mod Written
