pub mod Rules
pub mod Parts
pub mod Numbers
pub mod Chains
