pub mod Ranges
pub use Rattle.oc_model.specs.Conversions
pub use Rattle.oc_model.specs.Values
