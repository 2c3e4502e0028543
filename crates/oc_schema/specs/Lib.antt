pub mod ClassRules
pub mod Drafts
