pub mod Lists
pub mod Equivalence
pub mod Lent
pub mod Refusal
pub mod Ranks
pub mod Outcome
