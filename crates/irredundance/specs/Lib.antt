pub mod InnerIrredundant
