pub mod Units
pub mod Opened
pub mod Asked
