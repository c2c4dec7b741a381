pub mod Program
pub mod Files
pub mod Bases
pub mod Clashes
pub mod Judged
