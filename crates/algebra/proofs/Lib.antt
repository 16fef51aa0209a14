pub mod Accepted
pub mod Arguments
pub mod Congruences
pub mod Examples
pub mod Maximum
pub mod Powers
pub mod Tables
pub mod Tested
