pub mod Facts
pub mod Laws
pub mod Members
pub mod Scopes
