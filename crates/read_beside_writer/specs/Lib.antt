pub mod Moments
pub mod Known
