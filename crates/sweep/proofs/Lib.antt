pub mod Queues
pub mod Sweeps
pub mod Crossings
pub mod TableLaws
pub mod Images
