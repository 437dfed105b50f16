pub mod MadeColumns
pub mod SoFar
pub mod ToldColumns
