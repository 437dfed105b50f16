mod AtNodes
mod Arms
mod Inside
mod Places
mod Rows
mod Sizes
mod Steps
