pub mod Numerals
pub mod Lines
pub mod InnerRoom
