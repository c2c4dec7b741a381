pub mod Lists
pub mod Ways
pub mod Steps
pub mod Ends
pub mod Spreading
pub mod Turned
