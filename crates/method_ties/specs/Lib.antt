pub mod Sides
pub mod Tables
pub mod Ties
