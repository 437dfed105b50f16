pub mod Options
pub mod Words
pub mod Attributes
pub mod Nth
pub mod Pseudos
pub mod Compounds
pub mod Selecting
pub mod Media
