pub mod Inputs
pub mod Outcome
pub mod Told
