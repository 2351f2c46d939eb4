pub mod Heard
pub mod Blocks
pub mod Kept
pub mod Replied
pub mod Talk
pub mod Turns
