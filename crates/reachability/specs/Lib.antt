pub mod Flaws
pub mod Reached
