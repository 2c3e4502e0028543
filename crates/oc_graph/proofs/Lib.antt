pub mod Calls
pub mod Fields
pub mod Reading
pub mod Sights
pub mod Spelled
pub mod States
