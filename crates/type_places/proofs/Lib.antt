pub mod Heights
pub mod Steps
pub mod Statements
pub mod Flags
pub mod Parts
