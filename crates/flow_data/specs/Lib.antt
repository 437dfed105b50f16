pub mod Across
pub mod Data
pub mod Flows
pub mod Sizes
pub mod Soundness
