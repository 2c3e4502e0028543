pub mod Drafts
pub mod Log
pub mod Runs
pub mod States
pub mod Stops
