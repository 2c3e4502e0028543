pub mod ByBlocks
pub mod Edits
pub mod Fits
pub mod Largest
pub mod Ordered
pub mod Searching
