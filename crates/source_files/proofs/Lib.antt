pub mod Again
pub mod Parsing
pub mod Reading
