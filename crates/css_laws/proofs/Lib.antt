pub mod Runs
pub mod Found
pub mod Branches
pub mod Numbers
pub mod Reach
pub mod Whole
