pub mod Marking
pub mod Standings
