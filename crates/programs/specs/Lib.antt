pub mod Decisions
pub mod Images
pub mod Runs
pub mod Laws
