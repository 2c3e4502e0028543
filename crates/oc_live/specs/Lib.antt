pub mod Memories
pub mod Joined
pub mod Kept
