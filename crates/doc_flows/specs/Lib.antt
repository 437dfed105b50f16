pub mod Reading
pub mod Trees
pub mod Documents
pub mod Flags
pub mod Laws
pub mod Parts
