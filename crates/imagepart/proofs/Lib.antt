pub mod Examples
pub mod Copies
pub mod Littles
pub mod Steps
pub mod Shown
