pub mod Children
pub mod Parts
pub mod Generic
pub mod PlainRules
pub mod DeclaredRules
pub mod Walk
pub mod Looks
pub mod DeclaredLooks
