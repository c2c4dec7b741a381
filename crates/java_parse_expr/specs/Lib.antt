pub mod Parse
pub mod Seen
pub mod Nests
