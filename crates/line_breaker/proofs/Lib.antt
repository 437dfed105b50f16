pub mod Halves
pub mod Between
pub mod Following
pub mod Ends
pub mod AllLines
pub mod OneList
