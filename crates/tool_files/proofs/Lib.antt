pub mod Look
pub mod Laid
pub mod Tells
