pub mod Places
pub mod Types
pub mod Breaks
pub mod Walk
