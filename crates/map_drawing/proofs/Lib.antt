pub mod Counts
pub mod Squares
