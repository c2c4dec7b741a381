pub mod Reading
pub mod Writing
pub mod Keys
pub mod Repeating
