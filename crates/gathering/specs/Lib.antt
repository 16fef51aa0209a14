pub mod InnerGathering
pub mod InnerPace
