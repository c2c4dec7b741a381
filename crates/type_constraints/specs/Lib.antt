pub mod Unmets
pub mod Asked
pub mod Changed
pub mod Uses
pub mod Arguments
pub mod Declarations
pub mod Constraints
