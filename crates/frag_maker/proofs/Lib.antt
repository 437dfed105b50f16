pub mod Built
pub mod Closing
pub mod Growing
pub mod TreeSteps
