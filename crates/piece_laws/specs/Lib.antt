pub mod Boxes
pub mod Choice
pub mod Lines
pub mod Nesting
