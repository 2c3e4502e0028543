pub mod Causes
pub mod ListStore
pub mod Outcomes
pub mod Rest
pub mod Words
