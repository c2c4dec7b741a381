pub mod Declared
pub mod Files
