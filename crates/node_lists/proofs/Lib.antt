pub mod Listed
mod Tables
