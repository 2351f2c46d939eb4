pub mod Pieces
pub mod Layers
pub mod Laws
