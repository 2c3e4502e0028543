pub mod Bytes
pub mod Expressions
pub mod Lists
pub mod Numbers
pub mod Readers
pub mod Shifts
