pub mod Sectors
pub mod Shows
pub mod Steps
pub mod Copies
pub mod Areas
pub mod Merged
pub mod Gathered
