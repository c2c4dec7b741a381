pub mod Files
pub mod Edged
pub mod Graphs
pub mod Sets
pub mod Thrown
