pub mod InnerMeeting
pub mod Calls
