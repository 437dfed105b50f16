pub mod Inside
pub mod Named
pub mod Printed
