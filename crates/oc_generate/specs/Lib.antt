pub use Rattle.oc_machine.specs.Generated.{generated}
pub mod Lines
