pub mod Entries
pub mod Won
pub mod Attributes
pub mod Cascaded
pub mod Laws
