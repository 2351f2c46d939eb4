mod Merging
pub mod Stays
pub mod Doing
pub mod Reading
pub mod Places
pub mod Crossing
pub mod Mapping
