pub mod Styles
pub mod Texts
pub mod Lengths
pub mod Laws
