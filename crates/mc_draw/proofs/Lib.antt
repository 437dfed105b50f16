pub mod Steps
pub mod Rectangles
pub mod Numbers
pub mod FieldLemmas
pub mod ReadLemmas
pub mod AgainLemmas
