pub mod Adding
pub mod Folding
