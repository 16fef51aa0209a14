pub mod Identity
pub mod Numbering
pub mod Operations
pub mod QuotientTables
pub mod Walks
