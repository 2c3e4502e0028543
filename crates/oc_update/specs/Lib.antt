pub mod Drawn
pub mod Plans
