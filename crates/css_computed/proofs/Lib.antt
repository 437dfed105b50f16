pub mod Products
pub mod FieldNames
