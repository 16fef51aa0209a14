pub mod PairPlaces
pub mod Storing
pub mod Keepings
pub mod Closings
pub mod Insides
