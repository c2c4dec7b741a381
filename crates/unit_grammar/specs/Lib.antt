pub mod Calls
pub mod Declarations
pub mod Depths
pub mod Numbers
pub mod Sizes
