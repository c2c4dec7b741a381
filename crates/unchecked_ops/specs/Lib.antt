pub mod Casting
pub mod Bases
pub mod Raw
pub mod Operations
pub mod Laws
pub mod Programs
