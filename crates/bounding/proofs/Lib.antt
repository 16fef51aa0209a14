pub mod Settling
pub mod Bounding
pub mod RowBounds
pub mod Slices
