pub mod Places
pub mod Attributes
pub mod Tests
pub mod Matching
pub mod Walking
pub mod Specificity
