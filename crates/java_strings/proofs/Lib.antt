mod Bytes
pub mod Comparing
mod Digits
mod Reading
