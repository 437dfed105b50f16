pub mod Holding
pub mod LeastPiece
pub mod LoweredText
pub mod Lowering
