pub mod Naming
pub mod Tables
pub mod Joining
pub mod Enlisting
pub mod Keeping
pub mod Undoing
