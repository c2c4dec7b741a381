pub mod Assigned
pub mod Bodies
pub mod Variables
