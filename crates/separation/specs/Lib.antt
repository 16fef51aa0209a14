pub mod InnerSearch
