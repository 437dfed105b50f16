mod Pieces
pub mod Shown
