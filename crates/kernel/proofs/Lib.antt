pub mod Kernels
pub mod Names
