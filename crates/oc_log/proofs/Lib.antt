pub mod Bytes
pub mod FourCalls
pub mod Gates
pub mod Prepares
pub mod Puts
pub mod Redo
pub mod Stages
pub mod Touches
