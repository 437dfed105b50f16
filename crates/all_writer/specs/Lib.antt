pub mod AllText
pub mod PieceText
pub mod Words
