pub mod Ahead
pub mod Keeping
pub mod Calls
pub mod Carrying
pub mod Opened
pub mod Loaded
