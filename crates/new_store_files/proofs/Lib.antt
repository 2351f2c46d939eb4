pub mod Chunks
pub mod Stores
pub mod Good
pub mod Changes
pub mod Padded
