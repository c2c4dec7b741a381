pub mod Told
pub mod Flows
pub mod Groups
pub mod Receivers
pub mod Arguments
pub mod Declarations
pub mod Links
pub mod Program
