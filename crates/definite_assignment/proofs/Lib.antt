pub mod Expressions
pub mod Forms
pub mod Heights
pub mod Lists
pub mod Oks
pub mod Statements
pub mod Steps
