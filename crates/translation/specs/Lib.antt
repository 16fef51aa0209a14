pub mod InnerTranslations
pub mod InnerLines
