pub mod Seats
pub mod Openings
pub mod Watches
pub mod Backs
pub mod Teams
pub mod Keys
pub mod Faults
