pub mod Merges
pub mod Holding
pub mod Begun
