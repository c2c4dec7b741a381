pub mod Steps
pub mod Places
pub mod Heads
pub mod Deciding
pub mod Finding
pub mod Typing
