mod Extending
mod Unrefused
mod Changing
pub mod Indexes
pub mod Renames
pub mod Declares
