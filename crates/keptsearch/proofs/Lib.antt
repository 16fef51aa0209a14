pub mod Rowing
pub mod Joining
pub mod Listing
pub mod KeptRows
