pub mod Advancing
pub mod Calling
pub mod Examples
pub mod FedBack
pub mod Fills
pub mod Gathering
pub mod Stepping
