pub mod InnerSplitting
