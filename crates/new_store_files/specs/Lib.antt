pub mod Written
pub mod Parts
pub mod Changed
pub mod Padding
