pub mod Tables
pub mod Own
pub mod Firsts
pub mod Callees
pub mod Supers
pub mod Found
