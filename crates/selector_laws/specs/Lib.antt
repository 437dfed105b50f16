pub mod Spaces
pub mod Tests
pub mod Forms
pub mod Media
