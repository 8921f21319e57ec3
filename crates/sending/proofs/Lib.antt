mod Rows
pub mod Steps
pub mod Timer
pub mod Times
pub mod Window
