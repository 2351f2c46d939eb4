pub mod Joins
pub mod Runs
