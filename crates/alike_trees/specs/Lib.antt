pub mod Compared
pub mod Inside
