pub mod Winners
pub mod Styles
pub mod Table
pub mod Lengths
pub mod Computing
pub mod Parts
