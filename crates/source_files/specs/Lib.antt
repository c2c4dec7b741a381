pub mod Answers
pub mod Held
pub mod Steps
pub mod Trees
