pub mod Asked
pub mod Grammar
pub mod Given
pub mod Words
