pub mod OneLink
pub mod EveryLink
mod Given
pub mod Announcing
mod Ends
mod Places
