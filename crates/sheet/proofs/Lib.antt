pub mod SheetMaps
pub mod MapSums
pub mod Names
pub mod Places
pub mod Faults
pub mod Storing
