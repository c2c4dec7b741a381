pub mod Changes
pub mod Places
pub mod Changing
pub mod Heads
