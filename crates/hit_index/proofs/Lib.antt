pub mod Best
pub mod Filled
pub mod Made
pub mod Known
