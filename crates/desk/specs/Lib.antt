pub mod Writing
pub mod InnerRuns
