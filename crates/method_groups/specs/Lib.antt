pub mod Beside
pub mod Labels
pub mod Constructors
pub mod Taking
pub mod Groups
