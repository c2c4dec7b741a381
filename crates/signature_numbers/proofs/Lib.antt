pub mod Growing
pub mod Rows
pub mod Decoding
pub mod Whole
