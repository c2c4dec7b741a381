mod Begins
mod Files
mod Listed
mod Pushes
mod Targets
