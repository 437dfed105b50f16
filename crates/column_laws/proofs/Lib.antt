pub mod AnyFlow
pub mod Bounds
pub mod Counting
pub mod Depths
pub mod Following
pub mod Staying
pub mod Uses
