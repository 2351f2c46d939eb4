pub mod Balance
pub mod Passes
pub mod Working
pub mod Words
pub mod Growth
pub mod BoardPasses
