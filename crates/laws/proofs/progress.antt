mod Example
pub mod Paths
mod Flights
mod HeapWork
mod Hearing
pub mod Choices
pub mod Heard
pub mod Spaces
mod Falls
mod Stages
mod Ends
mod Costs
mod Sweeping
pub mod LocalWork
pub mod Theorems
mod TokenMoves
mod Soon
mod Turning
mod Widths
mod Idling
mod Listed
mod Resting
mod Marching
pub mod Rounded
