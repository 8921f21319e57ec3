pub mod Decisions
pub mod Openings
pub mod Disk
pub mod Beside
pub mod Runs
pub mod Laws
