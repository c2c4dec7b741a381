pub mod Fulls
pub mod Bits
pub mod Arguments
pub mod Tells
pub mod Opens
pub mod Overs
pub mod Belows
