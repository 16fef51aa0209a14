pub mod Whole
pub mod Calls
pub mod Reasons
pub mod RoundTrip
pub mod Bounds
pub mod InnerReading
