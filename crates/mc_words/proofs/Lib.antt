pub mod Grammar
pub mod Leaves
pub mod Lengths
pub mod Numerals
pub mod Taken
