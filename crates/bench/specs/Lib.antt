pub mod Outcome
pub mod Calls
