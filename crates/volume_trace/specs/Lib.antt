pub mod Trace
pub mod Layers
pub mod Merging
