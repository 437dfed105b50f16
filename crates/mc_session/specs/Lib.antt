pub mod Edits
pub mod Laws
pub mod Session
pub mod Printed
