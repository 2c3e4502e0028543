pub mod FromBehind
pub mod Names
pub mod Sharing
pub mod Ancestry
pub mod Parting
