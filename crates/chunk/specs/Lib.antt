pub mod Sizes
pub mod Pieces
