pub mod Spelled
pub mod Sights
pub mod Closed
pub mod Objects
pub mod Going
pub mod States
