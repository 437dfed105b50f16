pub mod Finding
pub mod Lowered
pub mod Telling
pub mod Trying
pub mod Using
