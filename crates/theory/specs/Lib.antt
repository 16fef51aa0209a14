pub mod Extremal
pub mod Decompose
pub mod Certify
pub mod Splitting
pub mod Samples
