pub mod Repeats
pub mod Signatures
