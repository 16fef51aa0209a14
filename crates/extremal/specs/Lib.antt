pub mod InnerExtension
