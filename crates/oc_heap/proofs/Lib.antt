pub mod Handles
pub mod Entering
