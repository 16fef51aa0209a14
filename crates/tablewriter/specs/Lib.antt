pub mod Texts
pub mod InnerFits
pub mod InnerLengths
