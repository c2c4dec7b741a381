pub mod Constants
pub mod Operators
pub mod Uses
pub mod Writtens
