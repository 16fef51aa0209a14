pub mod Reasons
pub mod Promises
pub mod Histories
pub mod Sums
pub mod Independence
