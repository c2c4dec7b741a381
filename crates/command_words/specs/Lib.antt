pub mod Names
pub mod Table
pub mod Rules
pub mod Asked
pub mod Scan
