pub mod Examples
pub mod Places
pub mod Translations
