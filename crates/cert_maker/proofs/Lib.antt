pub mod Entries
pub mod ItemRows
pub mod StartRows
