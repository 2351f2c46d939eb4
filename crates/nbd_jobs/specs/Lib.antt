pub mod Refused
pub mod Steps
pub mod Held
pub mod Replied
