pub mod Classes
pub mod Typing
pub mod Views
