pub mod Places
pub mod Records
pub use Rattle.oc_model.specs.Spelling
pub use Rattle.oc_model.specs.Values
pub use Rattle.oc_model.specs.Kinds
pub use Rattle.oc_model.specs.Stores
