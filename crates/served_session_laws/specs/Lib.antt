pub mod Carrying
pub mod Keeping
pub mod Sessions
