pub mod InnerSettled
pub mod InnerBlocks
pub mod InnerBounds
