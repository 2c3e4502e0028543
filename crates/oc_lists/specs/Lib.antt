pub mod Lists
pub mod Keeping
pub mod Changing
pub mod Moving
pub mod Refiling
pub mod Staying
pub mod Following
