pub mod Constants
pub mod Found
pub mod Told
pub mod Wrong
