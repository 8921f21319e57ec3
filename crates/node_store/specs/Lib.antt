pub mod Logs
pub mod Noted
pub mod Acting
pub mod Values
pub mod Laws
pub mod Plain
pub mod Stores
