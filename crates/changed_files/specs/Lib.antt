pub mod FileEdits
pub mod NewFiles
