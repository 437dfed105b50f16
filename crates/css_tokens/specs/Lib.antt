pub mod Characters
pub mod Classes
pub mod Gives
pub mod Lexing
pub mod Facts
pub mod Stops
