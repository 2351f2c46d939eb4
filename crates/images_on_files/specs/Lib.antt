pub mod Both
pub mod Held
