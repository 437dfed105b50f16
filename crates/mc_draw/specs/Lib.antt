pub mod Shapes
pub mod DrawingText
pub mod Laws
pub mod Fields
pub mod ReadBack
