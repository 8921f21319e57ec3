pub mod Joins
pub mod Sound
pub mod Within
pub mod Starts
