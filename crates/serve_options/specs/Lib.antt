pub mod Sizes
pub mod Splits
pub mod Exports
pub mod Asks
