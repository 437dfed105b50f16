pub mod Calls
pub mod Pieces
pub mod Progress
pub mod Telling
pub mod Uses
pub mod WorkedPieces
