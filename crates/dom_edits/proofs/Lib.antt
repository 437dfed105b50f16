mod Lists
mod Positions
mod Classes
mod Results
pub mod Shifted
pub mod Spots
pub mod Answered
pub mod Formed
