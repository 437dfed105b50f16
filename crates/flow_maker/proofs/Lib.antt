pub mod Counted
pub mod Seams
pub mod Made
