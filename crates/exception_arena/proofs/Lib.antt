pub mod Numbers
pub mod Steps
pub mod Masks
pub mod Hung
