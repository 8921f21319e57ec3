pub mod Journal
pub mod Tails
