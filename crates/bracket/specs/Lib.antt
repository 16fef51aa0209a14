pub mod Transcript
pub mod Fills
pub mod FedBack
pub mod Standings
pub mod InnerSteps
pub mod InnerRemaining
