pub mod Chains
mod Lending
pub mod Linking
mod Names
mod Opens
mod Packed
mod Places
mod Reach
pub mod Sound
mod Taking
mod Threads
