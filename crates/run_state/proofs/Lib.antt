pub mod Changed
pub mod Repeats
pub mod Slots
