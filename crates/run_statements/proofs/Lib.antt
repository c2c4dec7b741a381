pub mod Begins
pub mod Equations
pub mod Forms
pub mod Parts
pub mod Rows
pub mod Turns
