pub mod Table
pub mod Chosen
pub mod Made
