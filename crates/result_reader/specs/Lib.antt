pub mod Built
pub mod Lines
pub mod Read
pub mod Words
