pub mod Tests
pub mod Heights
pub mod Steps
pub mod Forms
pub mod Statements
