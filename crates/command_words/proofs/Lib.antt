pub mod Lists
pub mod Bytes
pub mod Numbers
pub mod Paths
pub mod Sets
pub mod RuleLemmas
pub mod Options
