pub mod Images
pub mod Examples
