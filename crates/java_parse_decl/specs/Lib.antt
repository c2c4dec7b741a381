pub mod Parse
pub mod Found
