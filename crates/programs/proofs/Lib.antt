mod Deeds
mod Lists
mod Rows
mod Sound
mod Steps
mod Theorems
