pub mod Few
pub mod Build
