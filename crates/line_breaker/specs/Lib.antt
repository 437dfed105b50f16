pub mod Measures
pub mod Lines
pub mod Arrays
