pub mod Ways
pub mod Pairs
pub mod Trees
pub mod Correspond
pub mod Behave
