pub mod Names
pub mod Plain
pub mod View
pub mod formers
