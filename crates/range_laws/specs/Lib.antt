pub mod Changes
pub mod Cites
pub mod Deciding
pub mod Entering
pub mod Entries
pub mod Neighbours
