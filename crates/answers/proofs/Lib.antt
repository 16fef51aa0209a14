pub mod Answering
pub mod Dividing
