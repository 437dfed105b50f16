pub mod Firsts
pub mod Tallied
