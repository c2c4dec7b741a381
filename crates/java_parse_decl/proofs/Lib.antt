pub mod Turns
pub mod Sound
pub mod Walks
pub mod Complete
pub mod Answered
