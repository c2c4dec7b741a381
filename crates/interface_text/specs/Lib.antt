pub mod Names
pub mod Types
pub mod Imports
pub mod Text
