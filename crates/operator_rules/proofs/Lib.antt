pub mod Heights
pub mod Sizes
pub mod TypeSteps
