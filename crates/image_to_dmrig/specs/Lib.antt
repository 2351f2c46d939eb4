pub mod Loads
pub mod Told
