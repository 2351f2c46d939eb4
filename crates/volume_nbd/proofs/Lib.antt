pub mod Events
pub mod Gathers
pub mod Merged
pub mod Sizes
