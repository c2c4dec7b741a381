pub mod Labels
pub mod Fronts
pub mod Pieces
pub mod Statements
pub mod Heights
