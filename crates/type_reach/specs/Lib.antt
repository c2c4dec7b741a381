pub mod Reach
pub mod Sources
pub mod Spread
pub mod Paths
