pub mod Examples
pub mod Images
