pub mod Firsts
pub mod Preferring
pub mod Choosing
pub mod Signing
pub mod Superclasses
pub mod Keeping
pub mod Making
