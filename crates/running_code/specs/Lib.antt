pub mod Places
pub mod Entries
pub mod Types
pub mod Names
pub mod Bodies
pub mod Running
