pub mod Further
pub mod Primitives
pub mod Members
pub mod Expressions
pub mod Statements
pub mod Runs
