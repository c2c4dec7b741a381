pub mod ProgramWorld
pub mod Steps
