pub mod Begins
pub mod Columns
pub mod Ending
pub mod Parts
pub mod Rooms
pub mod Rows
pub mod Sizes
pub mod Walks
