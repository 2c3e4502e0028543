pub mod Integers
pub use Rattle.oc_model.specs.Values
pub use Rattle.oc_model.specs.Orders
