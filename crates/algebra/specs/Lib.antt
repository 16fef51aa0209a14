pub mod Algebra
pub mod Accepted
pub mod Congruence
