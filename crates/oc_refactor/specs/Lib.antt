pub mod Answers
pub mod Around
pub mod ById
pub mod Fields
