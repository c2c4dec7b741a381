pub mod Erasures
pub mod Worlds
