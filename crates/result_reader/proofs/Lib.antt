pub mod Building
pub mod Cuts
pub mod Gathered
pub mod Numbers
pub mod Parts
pub mod Shapes
pub mod Whole
