pub mod Listed
pub mod Shortest
