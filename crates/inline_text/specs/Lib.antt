pub mod WhiteSpace
pub mod Opportunities
