pub mod Marks
pub mod Signs
pub mod Types
pub mod Parse
pub mod Seen
pub mod Ready
pub mod Found
