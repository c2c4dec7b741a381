pub mod Rules
pub mod Looks
