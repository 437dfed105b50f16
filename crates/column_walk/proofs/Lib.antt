pub mod Chain
pub mod Coming
pub mod Empty
pub mod Filled
pub mod Parting
pub mod Shortages
pub mod Small
pub mod Stopped
