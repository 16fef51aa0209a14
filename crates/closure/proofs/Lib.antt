pub mod Closings
pub mod Collections
pub mod Starting
