pub mod Seen
pub mod Closed
pub mod Scopes
