mod Classes
mod Firsts
mod Keeping
mod Kept
mod Links
mod Lists
mod Wanted
