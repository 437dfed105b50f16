pub mod Styles
pub mod SameLines
pub mod Kept
pub mod Narrow
