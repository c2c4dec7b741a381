pub mod Tables
pub mod Scopes
pub mod AtOnce
pub mod Links
pub mod Rounds
pub mod Families
pub mod Orders
pub mod Overrides
