pub mod Lexed
pub mod Line
pub mod Parsed
