pub mod Overlays
pub mod Owns
pub mod Rises
pub mod Leasts
pub mod Numbers
pub mod Shapes
pub mod Ups
pub mod Ranks
