pub mod Built
pub mod Fields
pub mod Own
pub mod Sums
pub mod Values
