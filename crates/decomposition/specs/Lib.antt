pub mod InnerFactored
