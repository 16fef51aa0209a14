pub mod Finding
pub mod Factoring
