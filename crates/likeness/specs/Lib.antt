pub mod InnerAlike
