pub mod Lists
pub mod Found
pub mod Alike
pub mod Ups
pub mod Plains
pub mod Whole
