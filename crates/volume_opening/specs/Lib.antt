pub mod Seen
pub mod NotReady
pub mod Taken
pub mod Loaded
pub mod Merged
