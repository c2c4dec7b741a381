mod Below
mod Compared
