pub mod Asking
pub mod Drawn
pub mod Graphs
pub mod NodeOrder
pub mod Work
