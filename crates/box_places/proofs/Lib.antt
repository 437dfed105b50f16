mod Products
mod LongLengths
mod OneBox
mod Trees
mod Parented
mod Steps
