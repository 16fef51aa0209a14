pub mod Readers
pub mod Words
pub mod Digits
