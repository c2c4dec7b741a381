pub mod Counting
pub mod Giving
pub mod Calling
pub mod Alike
