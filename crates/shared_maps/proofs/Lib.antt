pub mod Nodes
pub mod Walks
pub mod Listed
pub mod Views
pub mod Kept
pub mod Unions
pub mod Differing
pub mod Lacking
