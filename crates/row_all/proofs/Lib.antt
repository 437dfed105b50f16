pub mod Listing
pub mod Results
pub mod Stacking
pub mod Standing
pub mod Together
