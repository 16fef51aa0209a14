pub mod Quotient
pub mod InnerNumbers
pub mod InnerTables
