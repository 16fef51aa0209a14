pub mod MapLists
pub mod Collisions
pub mod ListTests
pub mod Suffixes
