mod Lists
mod Loops
mod Objects
mod Firsts
mod Behind
mod Told
