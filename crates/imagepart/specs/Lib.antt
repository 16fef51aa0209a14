pub mod Copies
pub mod Parts
pub mod InnerSteps
