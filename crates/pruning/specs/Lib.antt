pub mod InnerPruning
