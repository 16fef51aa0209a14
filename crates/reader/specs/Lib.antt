pub mod Lines
pub mod InnerPromises
pub mod InnerTaking
