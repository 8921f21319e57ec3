mod Joins
mod Lengths
mod Sound
