pub mod Calls
pub mod Earlier
pub mod Foremost
pub mod Pairs
pub mod Places
