pub mod Spelling
pub mod Steps
pub mod Lines
pub mod Places
pub mod Script
pub mod Laws
pub mod Edited
