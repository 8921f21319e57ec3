pub mod Lines
pub mod Runs
pub mod Senders
pub mod Laws
