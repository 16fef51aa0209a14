pub mod InnerGrowth
