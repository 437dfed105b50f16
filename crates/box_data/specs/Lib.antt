pub mod Styles
pub mod BoxTree
pub mod Widths
pub mod Content
pub mod DocumentFlows
pub mod Lines
pub mod Limits
pub mod Bounds
