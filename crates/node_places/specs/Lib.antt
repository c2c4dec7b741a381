pub mod Seek
pub mod Places
pub mod Tells
