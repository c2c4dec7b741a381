pub mod Forms
pub mod Lists
pub mod Counts
pub mod Walks
