pub mod Arrays
pub mod Differing
pub mod Status
pub mod Maps
