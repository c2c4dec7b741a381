pub mod Lookups
pub mod Classes
pub mod Families
