pub mod Receivers
pub mod Senders
