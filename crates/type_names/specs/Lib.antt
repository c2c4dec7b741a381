pub mod Known
pub mod Sees
pub mod Rules
pub mod Paths
pub mod Tables
pub mod Searches
