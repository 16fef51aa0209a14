pub mod RoundTrip
pub mod Examples
pub mod Taking
pub mod Writing
pub mod Reasons
