pub mod Formats
pub mod Laying
