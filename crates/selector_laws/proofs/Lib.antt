pub mod Lengths
pub mod Starts
pub mod TestsSaid
pub mod TestsRead
pub mod Said
pub mod Read
pub mod Media
