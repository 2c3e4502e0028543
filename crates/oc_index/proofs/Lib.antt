pub mod Committed
pub mod FieldsJoined
pub mod Ordered
pub mod Ranged
pub mod Slots
pub mod AsThen
