pub mod Phases
pub mod Rings
pub mod Balances
pub mod Verdicts
