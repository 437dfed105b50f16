pub mod Bands
pub mod Cover
pub mod Filling
pub mod Scan
