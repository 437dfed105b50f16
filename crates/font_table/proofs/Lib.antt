pub mod Words
pub mod Finding
pub mod Forms
pub mod Lines
pub mod Bytes
pub mod Whole
pub mod LineLoop
