pub mod AnyFlow
pub mod Counting
pub mod Depths
pub mod Following
pub mod Staying
