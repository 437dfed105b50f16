pub mod Classes
pub mod Gives
pub mod Stack
pub mod Building
pub mod Turn
pub mod OneTree
pub mod WellFormed
