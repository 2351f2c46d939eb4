pub mod Stops
pub mod Reads
pub mod MemFiles
pub mod Past
