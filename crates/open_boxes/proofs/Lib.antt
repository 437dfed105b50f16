pub mod Across
pub mod NoBoxes
pub mod OpenLists
