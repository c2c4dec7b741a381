pub mod Answering
pub mod Asking
pub mod Checking
pub mod Courses
pub mod Decisions
pub mod Excluding
pub mod Faults
pub mod OneDeclared
pub mod OneOutcome
pub mod OneParse
pub mod OneReading
pub mod OneSense
pub mod Places
pub mod Tables
mod Listing
mod Marks
