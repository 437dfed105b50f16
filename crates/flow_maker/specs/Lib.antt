pub mod Making
pub mod Premises
