pub mod Certs
pub mod Laws
pub mod Words
