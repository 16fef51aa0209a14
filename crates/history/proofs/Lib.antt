pub mod Edges
pub mod Answers
pub mod Adding
pub mod Pointing
pub mod Promises
pub mod Histories
pub mod Sums
pub mod Independence
