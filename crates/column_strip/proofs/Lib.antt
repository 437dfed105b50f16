pub mod BoxSteps
pub mod OpenSums
pub mod Rooms
