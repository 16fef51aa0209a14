pub mod InnerQueue
pub mod InnerContexts
pub mod InnerSweeps
