pub mod Image
pub mod InnerSheets
