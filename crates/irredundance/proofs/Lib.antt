pub mod Conditions
pub mod Superfluous
