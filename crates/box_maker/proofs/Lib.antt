mod Standing
mod Front
mod BoxLists
mod Blocks
mod Sweep
mod Whole
mod Walks
