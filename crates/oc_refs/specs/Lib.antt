pub mod Triples
pub mod Kept
