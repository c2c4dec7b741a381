pub mod Lookups
pub mod Standing
pub mod Lists
pub mod Joins
pub mod Spelled
pub mod Arrays
pub mod Above
