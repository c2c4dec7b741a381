pub mod Does
pub mod Tests
pub mod Found
pub mod Arrays
