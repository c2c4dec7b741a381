pub mod Stacks
pub mod Frames
pub mod Runs
