pub mod Nodes
pub mod Table
