pub mod Answered
pub mod Counts
pub mod Existence
pub mod Facts
pub mod Names
