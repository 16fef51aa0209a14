pub mod Certifying
pub mod Dividing
pub mod Turns
