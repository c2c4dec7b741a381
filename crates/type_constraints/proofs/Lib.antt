pub mod Each
pub mod Forms
pub mod Lists
pub mod Steps
