pub mod Standing
pub mod Texts
pub mod Parts
pub mod Readings
