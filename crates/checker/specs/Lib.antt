pub mod Checking
pub mod Flows
pub mod Laws
