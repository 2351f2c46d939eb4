pub mod Comparing
pub mod Ranging
pub mod Names
pub mod Tables
pub mod Human
