mod Events
mod Sends
mod Refusing
mod Appended
mod Balances
mod Nodes
mod Sound
mod Sharing
mod Seeing
mod Errands
mod Runs
mod Places
mod Posting
mod Receiving
mod Shading
mod Messages
mod Passing
mod Sweeping
mod Receipts
mod Lacking
mod Lists
mod Listed
pub mod Restorable
pub mod Rings
pub mod Held
mod Nothing
pub mod Kept
