pub mod Frames
pub mod Freed
pub mod Script
