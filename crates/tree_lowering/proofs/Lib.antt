pub mod Cutting
pub mod Making
pub mod Meeting
pub mod Places
pub mod Remaking
pub mod Results
