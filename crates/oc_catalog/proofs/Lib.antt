pub mod Rows
pub mod Drafts
pub mod Numbered
pub mod Judged
