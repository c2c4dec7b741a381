pub mod Sorts
pub mod Interned
pub mod Reads
pub mod Heights
pub mod Expressions
pub mod Statements
pub mod Carried
