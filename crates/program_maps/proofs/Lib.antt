pub mod Arrays
pub mod Counting
