pub mod Nodes
pub mod Done
pub mod Sizes
