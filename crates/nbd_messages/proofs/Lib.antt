pub mod Lengths
pub mod Fronts
