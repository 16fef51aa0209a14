pub mod Digits
pub mod Opening
pub mod DigitTable
pub mod Spacing
pub mod Numerals
pub mod Lengths
pub mod Bounds
