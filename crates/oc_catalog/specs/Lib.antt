pub mod Catalogs
pub mod Drafts
pub mod Telling
