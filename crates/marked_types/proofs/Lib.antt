pub mod Many
pub mod Heights
pub mod Forms
