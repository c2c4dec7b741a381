pub mod Lists
pub mod Steps
pub mod Spelled
pub mod Deciding
pub mod Clauses
pub mod Declarations
