pub mod Balancing
pub mod Cost
pub mod Finding
pub mod Searching
pub mod Trying
