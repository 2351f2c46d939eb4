pub mod Digits
pub mod Short
pub mod Added
pub mod Counted
pub mod Again
