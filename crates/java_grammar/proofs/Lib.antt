pub mod Carrying
pub mod Extents
pub mod Lexed
pub mod Reading
