pub mod InOrder
pub mod Tables
