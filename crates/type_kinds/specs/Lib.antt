pub mod Casts
pub mod Kinds
pub mod Members
pub mod OfWorld
