pub mod InnerKernel
pub mod InnerSearch
pub mod InnerLargest
