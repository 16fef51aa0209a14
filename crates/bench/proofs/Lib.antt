pub mod Samples
pub mod Edges
pub mod Calling
pub mod Adding
