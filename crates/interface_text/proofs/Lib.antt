mod Order
mod Rows
mod Steps
