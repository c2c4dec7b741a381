pub mod Adding
pub mod Own
pub mod Supers
pub mod Walking
