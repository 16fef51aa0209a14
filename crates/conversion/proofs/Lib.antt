pub mod Edges
pub mod Conversions
