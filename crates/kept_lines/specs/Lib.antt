pub mod Same
pub mod Narrowed
pub mod Keeping
