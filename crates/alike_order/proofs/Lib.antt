pub mod Erased
pub mod Orders
pub mod KeptSupers
