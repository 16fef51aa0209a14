pub mod Calls
pub mod Outcome
pub mod Reasons
pub mod Demands
pub mod Meanings
pub mod Examples
pub use Rattle.decomposition.specs.declared.Decomposed
