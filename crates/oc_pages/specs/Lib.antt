pub mod Chains
pub mod Order
pub mod Pages
pub mod Places
pub mod Targets
