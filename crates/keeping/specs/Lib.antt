pub mod InnerKeeping
pub mod InnerPrincipal
pub mod InnerInside
