pub mod Areas
pub mod Crashes
pub mod Record
pub mod Undo
pub mod Memory
pub mod Plan
