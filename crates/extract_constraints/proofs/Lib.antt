mod Each
mod EqualArguments
mod Expressions
mod Locals
mod Numbers
mod Statements
