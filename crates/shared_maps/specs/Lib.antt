pub mod Trees
pub mod Maps
