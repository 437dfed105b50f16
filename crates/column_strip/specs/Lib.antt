pub mod Boxes
pub mod Passed
pub mod Strips
