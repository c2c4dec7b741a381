pub mod Types
mod Others
mod Goes
mod Simulate
pub mod Runs
