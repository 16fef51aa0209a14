pub mod Pruning
pub mod Writing
