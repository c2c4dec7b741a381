pub mod Args
pub mod Fields
pub mod Frames
pub mod Invoking
pub mod Opening
pub mod Units
