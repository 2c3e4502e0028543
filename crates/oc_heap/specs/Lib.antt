pub mod Heaps
pub mod Places
pub mod Rows
