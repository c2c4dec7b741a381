pub mod Receivers
pub mod Targets
