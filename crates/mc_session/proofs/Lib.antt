mod Kept
pub mod Room
pub mod Denied
