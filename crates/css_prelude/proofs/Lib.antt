pub mod TestLoop
pub mod ListLoop
