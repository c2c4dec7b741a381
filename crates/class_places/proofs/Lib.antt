pub mod Heights
pub mod Steps
pub mod Statements
