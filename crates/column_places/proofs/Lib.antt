pub mod Edges
pub mod Gaps
pub mod Rows
pub mod SoFar
