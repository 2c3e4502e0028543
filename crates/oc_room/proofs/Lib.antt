pub mod Filled
pub mod Counting
pub mod Few
pub mod Placed
pub mod Placing
pub mod Shortages
pub mod Orders
