pub mod Splits
pub mod Reading
pub mod Asks
