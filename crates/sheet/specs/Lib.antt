pub mod Sheet
pub mod Points
pub mod InnerSums
