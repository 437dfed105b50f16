pub mod Lower
pub mod Met
