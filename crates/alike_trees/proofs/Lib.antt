pub mod Forms
pub mod Heights
pub mod Lists
pub mod Walks
