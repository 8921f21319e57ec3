pub mod Lines
pub mod Makers
pub mod Meeting
pub mod States
pub mod Systems
