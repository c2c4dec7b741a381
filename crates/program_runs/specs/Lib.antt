pub mod Answers
pub mod Ends
pub mod Pieces
pub mod Starts
pub mod Told
