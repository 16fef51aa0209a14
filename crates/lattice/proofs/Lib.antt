pub mod Calls
pub mod Joining
pub mod Meeting
